use Rattle.std.proofs.Common.{neg_ℤ, pos}
use Rattle.sqlite.specs.Held.{state}
use Rattle.office_sql.specs.SchemaVersions.{version_2}
use Rattle.office_sql.specs.declared.tables.OfficeTable.TheVariants as table
use Rattle.office_sql.proofs.Columns.{columns}
use Rattle.office_sql.proofs.CreateLemmas.{begins}
use Rattle.office_sql.proofs.OfTwo.{has_office}
use Rattle.office_sql.proofs.SuitedShown.{office_suits, puts_as}
use Rattle.office_sql.proofs.new_office.begin_office.Goals as goal

pub returns-clause-begun : goal.returns-clause-begun
returns-clause-begun g c =
    begins (state g.S.Store c.args.tx.now.conn.now) (state g.S.Store c.create_tables.new.tx.conn.now) (state g.S.Store c.put.new.tx.conn.now) c.put.result c.in_ok-create_tables.ensures.made
    (puts_as table.Office (office_suits (pos 1) (pos 2) (neg_ℤ (pos 719_162))) (search columns) c.put.ensures.put version_2 has_office)
