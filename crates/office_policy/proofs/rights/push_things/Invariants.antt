use Rattle.std.proofs.Common.{◌≡◌, ◌++◌, map, take}
use Rattle.std.specs.List.{flat_map}
use Rattle.office_policy.specs.Granted.{granted, granted_by}
use Rattle.office_policy.specs.Powers.{thing_power}
use Rattle.office_policy.specs.Scopes.{limits_in}
use Rattle.office_policy.proofs.rights.push_things.Given as goal

-- the rights to the things before a place
abbrev pub invariant-loop-thing : goal.invariant-loop-thing
invariant-loop-thing l =
    map granted_by l.rights.items
    ≡ map granted_by l.fn.rights.items ++ flat_map (λ thing. granted (limits_in l.scope) l.scope.is_for_sent (thing_power thing.now)) (take l.thing-index l.things)
