use Rattle.std.proofs.Common.{refl}
use Rattle.office_life.proofs.closing.close.Goals as goal

pub returns-in-Err-clause-closed : goal.returns-in-Err-clause-closed
returns-in-Err-clause-closed g c never = (c.args.conn.store, refl, c.in-Err.ensures.shut never)

pub returns-in-Ok-clause-tables : goal.returns-in-Ok-clause-tables
returns-in-Ok-clause-tables g c never held = c.in-Ok.ensures.tables never
