use Rattle.std.proofs.Common.{◌≡◌, ◌++◌, map, take}
use Rattle.std.specs.List.{flat_map}
use Rattle.office_policy.specs.Granted.{granted_by, rights_by_line}
use Rattle.office_policy.proofs.rights.push_role.Given as goal

-- the rights by the lines before a place
abbrev pub invariant-loop-entry : goal.invariant-loop-entry
invariant-loop-entry l =
    map granted_by l.rights.items
    ≡ map granted_by l.fn.rights.items
    ++ flat_map (λ entry. rights_by_line (map (λ w. w.now) l.given.of_name.now) l.given.role.now entry.line) (take l.entry-index l.entries)
