use Rattle.std.proofs.Common.{◌≡◌, [], rules}
use Rattle.sqlite.specs.Given.{HasBegun}
use Rattle.sqlite.specs.Held.{state}
use Rattle.sqlite.specs.State.{CommitsShowing, HasCleanDisk, Survives}
use Rattle.office_sql.specs.Office.{IsAtRestOver}
use Rattle.office_sql.specs.Tables.{text_of}
use Rattle.office_store.specs.Taken.{TakesRows}
use Rattle.office_store.proofs.TakenRows.{not_begun, rows_taken, still_at_rest}
use Rattle.office_store.proofs.table_rows.take_rows.Goals as goal

pub returns-in-Ok-clause-takes : goal.returns-in-Ok-clause-takes
returns-in-Ok-clause-takes g c ed is_table =
    let first = c.args.conn.now in
    let begun = c.in-Ok.rows.conn.now in
    let last = c.take_each.new.rows.conn.now in
    let t = c.args.table in
    let survives : Survives (state g.S.Store first) (state g.S.Store begun) (CommitsShowing (text_of t) [] (state g.S.Store first)) = rw c.text.ensures at c.in-Ok.ensures.survives in
    let begins : HasCleanDisk (state g.S.Store begun) → HasBegun g.S.Store (text_of t) [] first begun = rw c.text.ensures at c.in-Ok.ensures.begun in
    let it : TakesRows t g.T.Stored.encoded g.T.Stored.IsRow g.T.Stored.table_row (IsAtRestOver ed (state g.S.Store first)) (IsAtRestOver ed (state g.S.Store last) × ((state g.S.Store last).now ≡ (state g.S.Store first).now)) (state g.S.Store first) (state g.S.Store last) (g.I.Intake.content c.args.intake.now) (g.I.Intake.content c.take_each.new.intake) g.I.Intake.examines c.take_each.result =
    rows_taken g.S.Store g.T.Stored.encoded g.T.Stored.IsRow g.T.Stored.table_row ed t is_table first (g.I.Intake.content c.args.intake.now) (g.I.Intake.content c.take_each.new.intake) g.I.Intake.examines begun survives begins
    last c.take_each.result (c.take_each.ensures.takes ed t) (λ clean rest unchanged. still_at_rest g.S.Store g.T.Stored.encoded g.T.Stored.IsRow g.T.Stored.table_row ed t is_table first (g.I.Intake.content c.args.intake.now) (g.I.Intake.content c.take_each.new.intake) g.I.Intake.examines g.met.S.Store.settled g.met.S.Store.stays last rest unchanged) in
    search (rules, it)

pub returns-in-Err-clause-takes : goal.returns-in-Err-clause-takes
returns-in-Err-clause-takes g c ed is_table =
    let first = c.args.conn.now in
    let last = c.query.follows.lender-at-none in
    let t = c.args.table in
    let survives : Survives (state g.S.Store first) (state g.S.Store last) (CommitsShowing (text_of t) [] (state g.S.Store first)) = rw c.text.ensures at ((rw c.in-Err.is at c.query.follows.holds-at-none).survives) in
    not_begun g.S.Store g.T.Stored.encoded g.T.Stored.IsRow g.T.Stored.table_row ed t is_table first (g.I.Intake.content c.args.intake.now) (g.I.Intake.content c.args.intake.now) g.I.Intake.examines last c.from.result c.from.ensures survives
