use Rattle.std.proofs.Common.{Some}
use Rattle.office_gate.specs.Visitors.{visitor_of}
use Rattle.office_gate.proofs.Visited.{out_of_memory}
use Rattle.office_http.specs.Receiving.{request_of_kind}
use Rattle.office_noting.proofs.turn.answer_always.Goals as goal

pub returns-in-Err : goal.returns-in-Err
returns-in-Err g c =
    out_of_memory g.S.Store (Some (visitor_of c.args.keeper.now)) (request_of_kind c.args.kind.now) _ _ _ _
    c.error_reply.ensures c.in-Err.ensures
