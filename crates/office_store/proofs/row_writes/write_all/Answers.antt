use Rattle.std.proofs.Common.{◌∙◌}
use Rattle.sqlite.specs.Held.{state}
use Rattle.office_store.specs.Written.{IsWritten}
use Rattle.office_sql.specs.SchemaVersions.{version_2}
use Rattle.office_sql.proofs.Inside.{more_gone}
use Rattle.office_store.proofs.row_writes.write_all.Goals as goal

pub loop-write-preserved : goal.loop-write-preserved
loop-write-preserved g c = record {
  same_reference = c.in_ok-write_row.ensures.same_reference ∙ c.loop-write.invariant.same_reference;
  gone = more_gone version_2 IsWritten c.args.writes.now c.loop-write.write-index c.write-item.result (state g.S.Store c.args.tx.now.conn.now) (state g.S.Store c.loop-write.tx.conn.now) (state g.S.Store c.write_row.new.tx.conn.now)
      c.in_ok-write_row.field-0 c.loop-write-test.true c.write-item.is c.loop-write.invariant.gone c.in_ok-write_row.ensures.written;
}
