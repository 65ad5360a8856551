use Rattle.std.proofs.Common.{map}
use Rattle.office_policy.specs.Granted.{rights_by_role}
use Rattle.office_policy.proofs.Lists.{flat_map_map}
use Rattle.office_policy.proofs.roles.push_roles.Goals as goal

pub returns : goal.returns
returns c =
    simp (flat_map_map (rights_by_role c.args.entries.now (map (λ w. w.now) c.args.given.now.of_name.now)) (λ w. w.now) c.args.given.now.roles.now)
    c.push_each.ensures
