use Rattle.std.proofs.Common.{sym}
use Rattle.office_policy.specs.Granted.{with_role}
use Rattle.office_policy.proofs.Lists.{fold_map}
use Rattle.office_policy.proofs.roles.push_roles_for.Goals as goal

pub returns : goal.returns
returns c =
    simp (sym c.roles_for.ensures) (simp (fold_map with_role (λ w. w.now) c.args.texts.now.items c.roles_for.result.now) c.push_role_names.ensures)
