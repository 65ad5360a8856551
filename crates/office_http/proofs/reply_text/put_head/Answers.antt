use Rattle.office_base.proofs.Written.{err_then, on_err, some_before}
use Rattle.office_http.proofs.reply_text.put_head.Goals as goal

pub returns-in_err-put_start-clause-err : goal.returns-in_err-put_start-clause-err
returns-in_err-put_start-clause-err g c = on_err _ (some_before _ _ _ _ c.in_err-put_start.ensures.err)

pub returns-clause-err : goal.returns-clause-err
returns-clause-err g c = err_then c.put_end.result _ _ _ _ _ c.in_ok-put_start.ensures.ok c.put_end.ensures.err
