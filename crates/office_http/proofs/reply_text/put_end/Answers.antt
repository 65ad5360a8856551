use Rattle.office_http.proofs.reply_text.put_end.Goals as goal

pub returns-clause-err : goal.returns-clause-err
returns-clause-err g c = rw (c.as_bytes.ensures.value, c.format.ensures.text, c.as_bytes-2.ensures.value, c.allow_text.ensures) at c.put_parts.ensures.err
