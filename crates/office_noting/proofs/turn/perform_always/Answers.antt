use Rattle.std.proofs.Common.{Err, Some}
use Rattle.office_gate.specs.Visitors.{visitor_of}
use Rattle.office_gate.proofs.Visited.{out_of_memory}
use Rattle.office_http.specs.Receiving.{acts}
use Rattle.office_noting.proofs.Done.{list_done}
use Rattle.office_noting.proofs.turn.perform_always.Goals as goal

pub returns-in-Err : goal.returns-in-Err
returns-in-Err g c =
    out_of_memory g.S.Store (Some (visitor_of c.args.keeper.now)) (acts c.args.body.now) _ _ _ _ c.error_reply.ensures
    (list_done g.S.Store (visitor_of c.args.keeper.now) c.args.body.now c.args.all.now (Err c.in-Err.field-0) _ _ c.requires c.in-Err.ensures)
