use Rattle.office_gate.specs.Stated.{visitor_stated}
use Rattle.office_gate.proofs.Visited.{out_of_memory}
use Rattle.office_http.specs.Proxies.{values_of}
use Rattle.office_http.specs.Receiving.{request_of_kind}
use Rattle.office_gate.proofs.exchange.answer_always.Goals as goal

pub returns-in-Err : goal.returns-in-Err
returns-in-Err g c =
    let lines = c.args.request.now.lines in
    out_of_memory g.S.Store (visitor_stated c.args.gate.now (values_of lines.token) (values_of lines.name) (values_of lines.day))
    (request_of_kind c.args.request.now.request.kind) _ _ _ _ c.error_reply.ensures c.in-Err.ensures
