use Rattle.std.proofs.Common.{ap, Err}
use Rattle.office_http.specs.declared.request.ReceiveStop.{ReceiveStop}
use Rattle.office_wire.proofs.Replied.{request_next, failed_next, headless_next, silent_next, out_of_memory_next, unread_next}
use Rattle.office_wire.proofs.exchange.answer_next.Goals as goal

pub returns-in-Ok-Nothing-clause-next : goal.returns-in-Ok-Nothing-clause-next
returns-in-Ok-Nothing-clause-next g c = silent_next g.S.Store _ _ _ (rw c.in-Ok-Nothing.field-0-is at c.in-Ok-Nothing.ensures.came)

pub returns-in-Ok-Headless-clause-next : goal.returns-in-Ok-Headless-clause-next
returns-in-Ok-Headless-clause-next g c = headless_next g.S.Store _ _ _ _ c.error_to_send.ensures (rw c.in-Ok-Headless.field-0-is at c.in-Ok-Headless.ensures.came)

pub returns-in-Ok-Request-clause-next : goal.returns-in-Ok-Request-clause-next
returns-in-Ok-Request-clause-next g c =
    request_next g.S.Store _ _ _ _ c.in-Ok-Request.request _ (rw c.in-Ok-Request.field-0-is at c.in-Ok-Request.ensures.came) c.answer_request.ensures.is_head c.answer_request.ensures.has

pub returns-in-Err-Memory-clause-next : goal.returns-in-Err-Memory-clause-next
returns-in-Err-Memory-clause-next g c =
    unread_next g.S.Store _ _ _ _ (c.in-Err-Memory.ensures.unread (ap (λ (why : ReceiveStop). Err why) c.in-Err-Memory.field-0-is)) c.error_to_send-in-Err-Memory.ensures (rw c.in-Err-Memory.field-0-is at c.in-Err-Memory.ensures.came)

pub returns-in-Err-MemoryForBody-clause-next : goal.returns-in-Err-MemoryForBody-clause-next
returns-in-Err-MemoryForBody-clause-next g c =
    out_of_memory_next g.S.Store _ _ _ _ c.error_to_send-in-Err-MemoryForBody.ensures (rw c.in-Err-MemoryForBody.field-0-is at c.in-Err-MemoryForBody.ensures.came)

pub returns-in-Err-Io-clause-next : goal.returns-in-Err-Io-clause-next
returns-in-Err-Io-clause-next g c = failed_next g.S.Store _ _ _ _
