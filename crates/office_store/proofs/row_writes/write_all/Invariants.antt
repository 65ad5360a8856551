use Rattle.std.proofs.Common.{◌≡◌, take}
use Rattle.sqlite.specs.Held.{state}
use Rattle.office_sql.specs.SchemaVersions.{version_2}
use Rattle.office_sql.proofs.Inside.{HasGone}
use Rattle.office_store.specs.Written.{AreWritten}
use Rattle.office_store.proofs.row_writes.write_all.Given as goal

abbrev pub invariant-loop-write : goal.invariant-loop-write
invariant-loop-write g l = record {
  same_reference : l.tx.conn.ghost_name ≡ l.initial.tx.conn.ghost_name;
  gone : HasGone version_2 (AreWritten (take l.write-index l.writes)) (state g.S.Store l.initial.tx.conn.now) (state g.S.Store l.tx.conn.now);
}
