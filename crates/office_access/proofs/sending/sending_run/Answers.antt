use Rattle.std.proofs.Common.{◌∙◌, length, arith}
use Rattle.office_access.specs.Eyes.{is_sent_in}
use Rattle.office_access.proofs.Numbers.{first_later}
use Rattle.office_access.proofs.sending.sending_run.Goals as goal

pub loop-before-preserved : goal.loop-before-preserved
loop-before-preserved g c =
    c.loop-before.invariant
    ∙ first_later (is_sent_in (g.V.OfficeView.office c.args.office.now) c.args.record_no) (length (g.V.OfficeView.office c.args.office.now).runs) c.loop-before.before
    (omega arith) (cc)
