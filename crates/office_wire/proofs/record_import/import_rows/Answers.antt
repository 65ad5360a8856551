use Rattle.std.proofs.Common.{ap, Err}
use Rattle.office_csv.specs.declared.import_text.RowStop.{RowStop}
use Rattle.office_wire.proofs.Imported.{prefix_end, prefix_io, prefix_more, prefix_start, prefix_stopped, prefix_unread}
use Rattle.office_wire.proofs.record_import.import_rows.Goals as goal

pub loop-before-init : goal.loop-before-init
loop-before-init g c = (c.requires, prefix_start _ _ _ _ _ _)

pub returns-in-Ok-false : goal.returns-in-Ok-false
returns-in-Ok-false g c = λ text heads.
    prefix_end _ _ _ _ _ _ _ _ _ _ _ _ c.loop-before.invariant.1 text heads _ _ _ (rw c.in-Ok-false.field-0-test at c.in-Ok-false.ensures.reads)

pub returns-in-Err : goal.returns-in-Err
returns-in-Err g c = λ text heads.
    rw c.stop_at.ensures (prefix_unread _ _ _ _ _ _ _ _ _ _ _ _ c.loop-before.invariant.1 text heads _ (λ e. c.in-Err.ensures.bad (ap (λ (why : RowStop). Err why) e)))

pub returns-in-Err-take_row : goal.returns-in-Err-take_row
returns-in-Err-take_row g c = λ text heads.
    prefix_stopped _ _ _ _ _ _ _ _ _ _ _ _ _ _ _ _ _ (rw c.in-Ok-true.field-0-test at c.in-Ok-true.ensures.reads) c.in-Ok-true.ensures.text text heads _ c.loop-before.invariant.1 c.in-Err-take_row.ensures

pub loop-before-preserved : goal.loop-before-preserved
loop-before-preserved g c = (
  c.in-Ok-true.ensures.plain c.in-Ok-true.field-0-test,
  rw c.count_refused-refused.ensures
      (prefix_more _ _ _ _ _ _ _ _ _ _ _ _ _ _ _ _ _ (rw c.in-Ok-true.field-0-test at c.in-Ok-true.ensures.reads) c.in-Ok-true.ensures.text _ c.loop-before.invariant.1 c.in-Ok.ensures),
)

pub returns : goal.returns
returns g c = λ text heads. prefix_io _ _ _ _ _ _ _ _ _ _ _ _ c.loop-before.invariant.1 text heads
