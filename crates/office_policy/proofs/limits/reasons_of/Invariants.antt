use Rattle.std.proofs.Common.{◌≡◌, take}
use Rattle.std.specs.List.{flat_map}
use Rattle.office_policy.specs.Limits.{reasons_by}
use Rattle.office_policy.proofs.limits.reasons_of.Given as goal

-- the acts by the lines before a place
abbrev pub invariant-loop-entry : goal.invariant-loop-entry
invariant-loop-entry l = l.powers.items ≡ flat_map (λ entry. reasons_by entry.line) (take l.entry-index l.entries)
