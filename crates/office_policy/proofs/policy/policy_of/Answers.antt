use Rattle.std.proofs.Common.{refl}
use Rattle.office_access.specs.Settings.{are_apart}
use Rattle.office_policy.proofs.Apart.{has_policy}
use Rattle.office_policy.proofs.policy.policy_of.Goals as goal

pub returns : goal.returns
returns c =
    has_policy c.args.entries.now c.in_ok-people.people.items c.in_ok-taken.taken.items c.in_ok-others.others c.rules_of.result c.new.result
    (are_apart c.in_ok-people.people.items) refl c.new.ensures c.in_ok-people.ensures c.in_ok-taken.ensures c.in_ok-others.ensures
    c.rules_of.ensures
