use Rattle.office_machine.proofs.RunTests.{earlier_closed}
use Rattle.office_machine.proofs.examination.runs.are_earlier_closed.Goals as goal

pub returns-in-Some-clause-no : goal.returns-in-Some-clause-no
returns-in-Some-clause-no c reported last_open =
    let closed = earlier_closed c.args.runs.now c.in-Some.earlier.now c.in-Some.field-0-0.now c.in-Some.ensures.cases.0 last_open in
    absurd (cc (c.are_closed.ensures.1 closed, reported))
