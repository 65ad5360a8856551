use Rattle.office_json.proofs.AnswerLines.{done_line, number_line, same_line, step_line, run_closed_line, refused_line}
use Rattle.office_json.proofs.answer_lines.write_answer.Goals as goal

pub returns-in-Done-clause-ok : goal.returns-in-Done-clause-ok
returns-in-Done-clause-ok g c = rw (c.in-Done.is, done_line) c.put_bytes.ensures.ok

pub returns-in-Done-clause-err : goal.returns-in-Done-clause-err
returns-in-Done-clause-err g c = rw (c.in-Done.is, done_line) c.put_bytes.ensures.err

pub returns-in-Number-clause-ok : goal.returns-in-Number-clause-ok
returns-in-Number-clause-ok g c = rw (c.in-Number.is, number_line) c.put_numbered.ensures.ok

pub returns-in-Number-clause-err : goal.returns-in-Number-clause-err
returns-in-Number-clause-err g c = rw (c.in-Number.is, number_line) c.put_numbered.ensures.err

pub returns-in-Same-clause-ok : goal.returns-in-Same-clause-ok
returns-in-Same-clause-ok g c = rw (c.in-Same.is, same_line) c.put_numbered-in-Same.ensures.ok

pub returns-in-Same-clause-err : goal.returns-in-Same-clause-err
returns-in-Same-clause-err g c = rw (c.in-Same.is, same_line) c.put_numbered-in-Same.ensures.err

pub returns-in-Step-clause-ok : goal.returns-in-Step-clause-ok
returns-in-Step-clause-ok g c = rw (c.in-Step.is, step_line) c.put_step.ensures.ok

pub returns-in-Step-clause-err : goal.returns-in-Step-clause-err
returns-in-Step-clause-err g c = rw (c.in-Step.is, step_line) c.put_step.ensures.err

pub returns-in-RunClosed-clause-ok : goal.returns-in-RunClosed-clause-ok
returns-in-RunClosed-clause-ok g c = rw (c.in-RunClosed.is, run_closed_line) c.put_numbered-in-RunClosed.ensures.ok

pub returns-in-RunClosed-clause-err : goal.returns-in-RunClosed-clause-err
returns-in-RunClosed-clause-err g c = rw (c.in-RunClosed.is, run_closed_line) c.put_numbered-in-RunClosed.ensures.err

pub returns-in-Refused-clause-ok : goal.returns-in-Refused-clause-ok
returns-in-Refused-clause-ok g c = rw (c.in-Refused.is, refused_line) c.put_refused.ensures.ok

pub returns-in-Refused-clause-err : goal.returns-in-Refused-clause-err
returns-in-Refused-clause-err g c = rw (c.in-Refused.is, refused_line) c.put_refused.ensures.err
