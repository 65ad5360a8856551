use Rattle.std.proofs.Common.{Bool, true, false, ℕ, List, Option, ◌++◌}
use Rattle.office_base.specs.Output.{AppendsSome}
use Rattle.office_base.proofs.Written.{err_then, on_err, some_before}
use Rattle.office_http.specs.Replies.{Response, response, response_head, response_text}
use Rattle.office_http.proofs.reply_text.put_reply.Goals as goal

-- some of a head is some of an answer, to HEAD and to others
head_some : (is_head : Bool) (r : Response) (old new : Option (List ℕ)) → AppendsSome old new (response_head r) → AppendsSome old new (response_text is_head r)
head_some true r old new some = some
head_some false r old new some = some_before old new (response_head r) r.body some

pub returns-in_err-put_head-clause-err : goal.returns-in_err-put_head-clause-err
returns-in_err-put_head-clause-err g c =
    on_err _ (head_some c.args.is_head (response c.args.reply.now) _ _ (rw c.as_bytes-body.ensures at c.in_err-put_head.ensures.err))

pub returns-else-is_head-clause-err : goal.returns-else-is_head-clause-err
returns-else-is_head-clause-err g c =
    rw c.if-is_head.false (rw c.as_bytes-body.ensures at (err_then c.put_bytes.result _ _ _ _ _ c.in_ok-put_head.ensures.ok c.put_bytes.ensures.err))
