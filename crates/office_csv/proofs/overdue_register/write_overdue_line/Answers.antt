use Rattle.std.proofs.Common.{◌∙◌}
use Rattle.office_csv.specs.Registers.{overdue_line}
use Rattle.office_csv.proofs.overdue_register.write_overdue_line.Goals as goal

pub returns-clause-ok : goal.returns-clause-ok
unfolding overdue_line
returns-clause-ok g c =
    rw (c.in_ok-texts.ensures.number, c.in_ok-texts.ensures.due, c.deref.ensures.value ∙ c.in_ok-deadline.ensures) at c.put_line.ensures.ok

pub returns-clause-err : goal.returns-clause-err
unfolding overdue_line
returns-clause-err g c =
    rw (c.in_ok-texts.ensures.number, c.in_ok-texts.ensures.due, c.deref.ensures.value ∙ c.in_ok-deadline.ensures) at c.put_line.ensures.err
