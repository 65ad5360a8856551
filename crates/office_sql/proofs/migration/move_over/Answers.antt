use Rattle.sqlite.specs.Held.{state}
use Rattle.office_sql.specs.Migrated.{Moved, Raised}
use Rattle.office_sql.specs.SchemaVersions.{version_2}
use Rattle.office_sql.specs.Office.{Removed}
use Rattle.office_sql.specs.Schema.{schedules}
use Rattle.std.proofs.Common.{◌∷◌, [], ◌∙◌}
use Rattle.office_sql.proofs.MigrateLemmas.{Emptied, empties, goes_then, still_one, reports}
use Rattle.office_sql.proofs.migration.move_over.Goals as goal

pub returns-clause-moved : goal.returns-clause-moved
returns-clause-moved g c day none ready =
    let a = state g.S.Store c.args.tx.now.conn.now in
    let b = state g.S.Store c.move_schedules.new.tx.conn.now in
    let d = state g.S.Store c.clear_schedules.new.tx.conn.now in
    let e = state g.S.Store c.raise_version.new.tx.conn.now in
    let first = c.in_ok-move_schedules.ensures.moved none ready.rows in
    let emptied = goes_then a b d Moved (Removed version_2 schedules ([] ∷ []) []) Emptied _ first c.in_ok-clear_schedules.ensures.quiet (λ _. c.in_ok-clear_schedules.ensures.cleared) (empties a.now b.now d.now) in
    goes_then a d e Emptied (Raised day) _ c.raise_version.result emptied c.raise_version.ensures.quiet
    (λ left. c.raise_version.ensures.raised day (still_one day a.now d.now ready left ∙ ready.office)) (reports day a.now d.now e.now)
