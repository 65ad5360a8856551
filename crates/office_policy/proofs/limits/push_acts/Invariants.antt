use Rattle.std.proofs.Common.{◌≡◌, ◌++◌, take}
use Rattle.std.specs.List.{flat_map}
use Rattle.std.specs.Option.{option_to_list}
use Rattle.office_policy.specs.Powers.{act_power}
use Rattle.office_policy.proofs.limits.push_acts.Given as goal

-- the acts before a place
abbrev pub invariant-loop-act : goal.invariant-loop-act
invariant-loop-act l = l.powers.items ≡ l.fn.powers.items ++ flat_map (λ act. option_to_list (act_power act.now)) (take l.act-index l.acts)
