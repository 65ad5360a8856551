use Rattle.std.proofs.Common.{rules}
use Rattle.office_sql.specs.SchemaVersions.{version_2}
use Rattle.office_sql.specs.declared.tables.OfficeTable.TheVariants as table
use Rattle.office_sql.proofs.Columns.{given_columns}
use Rattle.office_sql.proofs.OfTwo.{has_schedules2}
use Rattle.office_sql.proofs.SuitedShown.{schedule_suits, puts_as}
use Rattle.office_store.proofs.row_writes.put_schedule.Goals as goal

pub returns-clause-written : goal.returns-clause-written
returns-clause-written g c = puts_as table.Schedules (schedule_suits _ _ _ _ _ _) (search (rules, given_columns) depth 14) c.put.ensures.put version_2 has_schedules2
