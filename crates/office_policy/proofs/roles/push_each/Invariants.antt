use Rattle.std.proofs.Common.{◌≡◌, ◌++◌, map, take}
use Rattle.std.specs.List.{flat_map}
use Rattle.office_policy.specs.Granted.{granted_by, rights_by_role}
use Rattle.office_policy.proofs.roles.push_each.Given as goal

-- the rights of the roles before a place
abbrev pub invariant-loop-role : goal.invariant-loop-role
invariant-loop-role l =
    map granted_by l.rights.items
    ≡ map granted_by l.fn.rights.items
    ++ flat_map (λ role. rights_by_role l.entries (map (λ w. w.now) l.given.of_name.now) role.now) (take l.role-index l.given.roles.now)
