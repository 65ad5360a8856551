use Rattle.std.proofs.Common.{◌≡◌, ◌++◌, map, take}
use Rattle.std.specs.List.{flat_map}
use Rattle.office_policy.specs.Granted.{granted, granted_by}
use Rattle.office_policy.specs.Powers.{act_power}
use Rattle.office_policy.specs.Scopes.{limits_in}
use Rattle.office_policy.proofs.rights.push_acts.Given as goal

-- the rights to the acts before a place
abbrev pub invariant-loop-act : goal.invariant-loop-act
invariant-loop-act l =
    map granted_by l.rights.items
    ≡ map granted_by l.fn.rights.items ++ flat_map (λ act. granted (limits_in l.scope) l.scope.is_for_sent (act_power act.now)) (take l.act-index l.acts)
