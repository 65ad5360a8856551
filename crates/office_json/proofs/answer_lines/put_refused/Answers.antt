use Rattle.office_json.proofs.answer_lines.put_refused.Goals as goal

pub returns-clause-ok : goal.returns-clause-ok
returns-clause-ok g c = rw (c.as_bytes.ensures.value, c.format.ensures.text, c.number.ensures) at c.put_parts.ensures.ok

pub returns-clause-err : goal.returns-clause-err
returns-clause-err g c = rw (c.as_bytes.ensures.value, c.format.ensures.text, c.number.ensures) at c.put_parts.ensures.err
