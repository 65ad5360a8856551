use Rattle.std.proofs.Common.{refl}
use Rattle.office_gate.proofs.access.policy_in.Goals as goal

pub returns-in-Ok-Ok-clause-ok : goal.returns-in-Ok-Ok-clause-ok
returns-in-Ok-Ok-clause-ok c = record {
  settings = c.in-Ok-Ok.settings;
  read = rw c.in-Ok-Ok.field-0-is at c.in-Ok-Ok.ensures;
  has = refl;
}
