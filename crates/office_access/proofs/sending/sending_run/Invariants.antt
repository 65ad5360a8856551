use Rattle.std.proofs.Common.{◌≡◌, length}
use Rattle.office_access.specs.Eyes.{is_sent_in, sending_run}
use Rattle.office_access.proofs.Numbers.{first_after}
use Rattle.office_access.proofs.sending.sending_run.Given as goal

-- the runs that are left answer for all
abbrev pub invariant-loop-before : goal.invariant-loop-before
invariant-loop-before g l =
    sending_run (g.V.OfficeView.office l.office) l.record_no
    ≡ first_after (is_sent_in (g.V.OfficeView.office l.office) l.record_no) (length (g.V.OfficeView.office l.office).runs) l.before
