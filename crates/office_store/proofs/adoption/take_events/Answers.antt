use Rattle.std.proofs.Common.{Ok, arith, refl, sym, subst}
use Rattle.sqlite.specs.Held.{state}
use Rattle.office_sql.specs.declared.schema_versions.SchemaVersion.TheVariants as schema_version
use Rattle.office_sql.specs.declared.tables.OfficeTable.TheVariants as table
use Rattle.office_store.specs.Stored.{IsEventPair, IsRowOf, event_pair, event_table_row}
use Rattle.office_store.specs.Taken.{TakesIn}
use Rattle.office_store.proofs.MoreReadable.{events_readable}
use Rattle.office_store.proofs.TablesCome.{events_begun, events_whole}
use Rattle.office_store.proofs.Takings.{none_taken, table_taken}
use Rattle.office_store.proofs.adoption.take_events.Goals as goal

pub returns-in-One-clause-takes : goal.returns-in-One-clause-takes
returns-in-One-clause-takes g c =
    let old = state g.S.Store c.args.conn.now in
    let had = g.I.Intake.content c.args.intake.now in
    subst (λ ed. TakesIn ed 5 6 old old had had g.I.Intake.examines (Ok tt)) (sym c.in-One.is) (none_taken old had g.I.Intake.examines)

pub returns-in-Two-clause-takes : goal.returns-in-Two-clause-takes
returns-in-Two-clause-takes g c =
    let took = c.take_rows in
    let old = state g.S.Store c.args.conn.now in
    let new = state g.S.Store took.new.conn in
    let had = g.I.Intake.content c.args.intake.now in
    let has = g.I.Intake.content took.new.intake in
    subst (λ ed. TakesIn ed 5 6 old new had has g.I.Intake.examines took.result) (sym c.in-Two.is)
    (table_taken schema_version.Two table.Events event_pair (IsRowOf event_pair IsEventPair) event_table_row 5 6 (omega arith) (λ db all. all.rows.events refl) events_begun events_whole (events_readable schema_version.Two) old new had has g.I.Intake.examines took.result (took.ensures.takes schema_version.Two tt))
