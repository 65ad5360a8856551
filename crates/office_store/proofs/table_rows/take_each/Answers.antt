use Rattle.std.proofs.Common.{◌≡◌, None, Some, Err, ◌∙◌, ap, rules}
use Rattle.std.proofs.lemmas.Result.{err_from_is_err_and}
use Rattle.sqlite.specs.Given.{Advances, row_if}
use Rattle.sqlite.specs.Held.{state}
use Rattle.sqlite.specs.State.{HasCleanDisk, IsUnchanged}
use Rattle.office_store.proofs.TakenRows.{all_taken, one_taken, row_refused}
use Rattle.office_store.proofs.table_rows.take_each.Goals as goal

pub returns-in_default-clause-takes : goal.returns-in_default-clause-takes
returns-in_default-clause-takes g c =
    let mid = c.each.rows.conn.now in
    let moved = c.advance.new.self in
    let next = row_if moved.has_row moved.conn.now in
    let same : HasCleanDisk (state g.S.Store moved.conn.now) → IsUnchanged (state g.S.Store mid) (state g.S.Store moved.conn.now) = λ clean. search rules in
    let gives : HasCleanDisk (state g.S.Store moved.conn.now) → Advances g.S.Store mid moved.conn.now next = λ clean. search rules in
    let last : next ≡ None = search rules in
    all_taken g.S.Store g.T.Stored.encoded g.T.Stored.IsRow g.T.Stored.table_row c.args.rows.now.conn.now (g.I.Intake.content c.args.intake.now) g.I.Intake.examines mid moved.conn.now (g.I.Intake.content c.each.intake) c.each.invariant.1 next
    c.advance.ensures.survives c.advance.ensures.mode same gives tt last

pub returns-in_err-take_row-clause-takes : goal.returns-in_err-take_row-clause-takes
returns-in_err-take_row-clause-takes g c =
    let mid = c.each.rows.conn.now in
    let moved = c.advance.new.self in
    let next = row_if moved.has_row moved.conn.now in
    let same : HasCleanDisk (state g.S.Store moved.conn.now) → IsUnchanged (state g.S.Store mid) (state g.S.Store moved.conn.now) = λ clean. search rules in
    let gives : HasCleanDisk (state g.S.Store moved.conn.now) → Advances g.S.Store mid moved.conn.now next = λ clean. search rules in
    let found : next ≡ Some c.in-Some.row.now = search rules in
    let failed = err_from_is_err_and c.from_residual-in_err-take_row.result c.from_residual-in_err-take_row.ensures.1 in
    row_refused g.S.Store g.T.Stored.encoded g.T.Stored.IsRow g.T.Stored.table_row c.args.rows.now.conn.now (g.I.Intake.content c.args.intake.now) g.I.Intake.examines mid moved.conn.now (g.I.Intake.content c.each.intake) c.each.invariant.1 next
    c.advance.ensures.survives c.advance.ensures.mode same gives c.in-Some.row.now (g.I.Intake.content c.take_row.new.intake) c.in_err-take_row.field-0.0 c.from_residual-in_err-take_row.result
    found c.in_err-take_row.ensures.damaged c.in_err-take_row.ensures.faults (failed.1 ∙ ap Err failed.2)

pub each-preserved : goal.each-preserved
each-preserved g c =
    let mid = c.each.rows.conn.now in
    let moved = c.advance.new.self in
    let next = row_if moved.has_row moved.conn.now in
    let same : HasCleanDisk (state g.S.Store moved.conn.now) → IsUnchanged (state g.S.Store mid) (state g.S.Store moved.conn.now) = λ clean. search rules in
    let gives : HasCleanDisk (state g.S.Store moved.conn.now) → Advances g.S.Store mid moved.conn.now next = λ clean. search rules in
    let found : next ≡ Some c.in-Some.row.now = search rules in
    let took = c.in_ok-take_row.ensures.ok in (
      c.advance.ensures.same_reference ∙ c.each.invariant.0,
      one_taken g.S.Store g.T.Stored.encoded g.T.Stored.IsRow g.T.Stored.table_row c.args.rows.now.conn.now (g.I.Intake.content c.args.intake.now) g.I.Intake.examines mid moved.conn.now (g.I.Intake.content c.each.intake) c.each.invariant.1 next
          c.advance.ensures.survives c.advance.ensures.mode same gives c.in-Some.row.now took.0 (g.I.Intake.content c.take_row.new.intake) found took.1 took.2 c.in_ok-take_row.ensures.formed,
    )
