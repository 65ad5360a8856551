use Rattle.std.proofs.Common.{◌≡◌, map, take}
use Rattle.std.specs.List.{flat_map}
use Rattle.std.specs.Option.{option_copied}
use Rattle.office_policy.specs.Granted.{granted_by, rights_from}
use Rattle.office_policy.proofs.roles.rights_of.Given as goal

-- the rights by the lines before a place
abbrev pub invariant-loop-entry : goal.invariant-loop-entry
invariant-loop-entry l =
    map granted_by l.rights.items
    ≡ flat_map (λ entry. rights_from l.entries (option_copied l.name) entry.line) (take l.entry-index l.entries)
