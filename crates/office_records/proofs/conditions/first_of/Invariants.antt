use Rattle.std.proofs.Common.{◌≡◌, drop}
use Rattle.office_records.specs.Conditions.{first_of}
use Rattle.office_records.proofs.conditions.first_of.Given as goal

-- the conditions that are left answer for all
abbrev pub invariant-loop-refusal : goal.invariant-loop-refusal
invariant-loop-refusal l = first_of (drop l.refusal-index l.conditions) ≡ first_of l.conditions
