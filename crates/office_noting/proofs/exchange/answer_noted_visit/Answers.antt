use Rattle.office_gate.proofs.Visited.{settings_stated}
use Rattle.office_noting.proofs.Arrived.{left_by, to_send, visited}
use Rattle.office_noting.proofs.exchange.answer_noted_visit.Goals as goal

pub returns-in-Ok-Request-clause-ok : goal.returns-in-Ok-Request-clause-ok
returns-in-Ok-Request-clause-ok g c =
    to_send g.W.Write.contents g.S.Store c.args.arrival.now _ _ _ _ c.in-Ok-Request.request c.answer_request-sending.result _
    (rw c.in-Ok-Request.field-0-is at c.in-Ok-Request.ensures) c.answer_request-sending.ensures.is_head c.answer_request-sending.ensures.noted

pub returns-in-Ok-Request-clause-noted : goal.returns-in-Ok-Request-clause-noted
returns-in-Ok-Request-clause-noted g c =
    visited g.W.Write.contents g.S.Store c.args.arrival.now _ _ _ _ _ _ _ _ (settings_stated c.args.arrival.now.gate.now _ _ _) c.answer_request-sending.ensures.noted

pub returns-in-Ok-Request-clause-leaves : goal.returns-in-Ok-Request-clause-leaves
returns-in-Ok-Request-clause-leaves g c =
    left_by g.W.Write.contents g.S.Store c.args.arrival.now _ _ _ _ _ _ _ _ (settings_stated c.args.arrival.now.gate.now _ _ _) c.answer_request-sending.ensures.noted
