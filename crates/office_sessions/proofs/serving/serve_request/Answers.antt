use Rattle.std.proofs.Common.{arith}
use Rattle.office_wire.specs.RequestLists.{traffic_of}
use Rattle.office_sessions.proofs.Single.{request_served, some_served}
use Rattle.office_sessions.proofs.serving.serve_request.Goals as goal

pub returns : goal.returns
returns g c =
    let session = c.serve_session in
    let count = session.result.connections in
    let all = session.ensures.all in
    request_served g.S.Store c.args.request.now c.args.desk.now session.new.desk count session.result.has_failed (traffic_of c.in-Ok.list) (traffic_of session.new.source) c.into_answers-sent.result.items c.pop.new.self.items c.pop.result c.in-Ok.ensures
    session.ensures.served (some_served g.S.Store count session.result.has_failed session.result.is_poisoned c.args.desk.now session.new.desk all.turns all.all) c.into_answers-sent.ensures c.pop.ensures.items
    (λ some. c.pop.ensures.variant.1 (omega (arith, some, c.into_answers-sent.result.ok.0)))
