use Rattle.office_gate.proofs.Visited.{request_next}
use Rattle.office_gate.proofs.exchange.answer_visit.Goals as goal

pub returns-in-Ok-Request-clause-next : goal.returns-in-Ok-Request-clause-next
returns-in-Ok-Request-clause-next g c =
    request_next g.S.Store c.args.gate.now c.in-Ok-Request.request c.answer_request.result _ _ _
    (rw c.in-Ok-Request.field-0-is at c.in-Ok-Request.ensures) c.answer_request.ensures.is_head c.answer_request.ensures.has
