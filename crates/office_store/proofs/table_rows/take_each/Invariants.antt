use Rattle.std.proofs.Common.{◌≡◌}
use Rattle.office_store.proofs.TakenRows.{HasTaken}
use Rattle.office_store.proofs.table_rows.take_each.Given as goal

abbrev pub invariant-each : goal.invariant-each
invariant-each g l =
    (l.rows.conn.ghost_name ≡ l.fn.rows.conn.ghost_name) × HasTaken g.S.Store g.T.Stored.encoded g.T.Stored.IsRow g.T.Stored.table_row l.fn.rows.conn.now (g.I.Intake.content l.fn.intake) g.I.Intake.examines l.rows.conn.now (g.I.Intake.content l.intake)
