use Rattle.sqlite.specs.Held.{state}
use Rattle.office_sql.proofs.MakeTables.{creates_table}
use Rattle.office_sql.proofs.new_tables.create.Goals as goal

pub returns-clause-made : goal.returns-clause-made
returns-clause-made g c =
    let ran = rw c.create.ensures at c.execute.ensures.ran in
    creates_table c.args.table (state g.S.Store c.args.tx.now.conn.now) (state g.S.Store c.execute.new.tx.conn.now) c.execute.result ran c.execute.ensures.kept c.execute.ensures.survives
