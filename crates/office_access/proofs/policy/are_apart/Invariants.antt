use Rattle.std.proofs.Common.{◌≡◌, drop}
use Rattle.office_access.specs.Settings.{are_apart}
use Rattle.office_access.proofs.policy.are_apart.Given as goal

-- the persons that are left answer for all
abbrev pub invariant-loop-index : goal.invariant-loop-index
invariant-loop-index l = are_apart l.people ≡ are_apart (drop l.index l.people)
