use Rattle.std.proofs.Common.{◌≡◌, take}
use Rattle.std.specs.List.{flat_map}
use Rattle.office_policy.specs.Policies.{looks_of}
use Rattle.office_policy.proofs.policy.looks_of.Given as goal

-- the looks of the lines before a place
abbrev pub invariant-loop-entry : goal.invariant-loop-entry
invariant-loop-entry l =
    l.looks.items ≡ flat_map looks_of (take l.entry-index l.entries)
