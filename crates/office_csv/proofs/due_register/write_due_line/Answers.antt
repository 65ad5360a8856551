use Rattle.office_csv.specs.Registers.{due_line}
use Rattle.office_csv.proofs.due_register.write_due_line.Goals as goal

pub returns-clause-ok : goal.returns-clause-ok
unfolding due_line
returns-clause-ok g c = rw (c.in_ok-texts.ensures.number, c.in_ok-texts.ensures.due) at c.put_line.ensures.ok

pub returns-clause-err : goal.returns-clause-err
unfolding due_line
returns-clause-err g c = rw (c.in_ok-texts.ensures.number, c.in_ok-texts.ensures.due) at c.put_line.ensures.err
