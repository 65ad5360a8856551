use Rattle.office_json.proofs.answer_lines.put_step.Goals as goal

pub returns-clause-ok : goal.returns-clause-ok
returns-clause-ok g c = rw (c.as_bytes.ensures.value, c.text.ensures, c.as_bytes-2.ensures.value, c.format.ensures.text) at c.put_parts.ensures.ok

pub returns-clause-err : goal.returns-clause-err
returns-clause-err g c = rw (c.as_bytes.ensures.value, c.text.ensures, c.as_bytes-2.ensures.value, c.format.ensures.text) at c.put_parts.ensures.err
