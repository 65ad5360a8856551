use Rattle.office_wire.proofs.Reported.{out_of_memory}
use Rattle.office_wire.proofs.exchange.answer_always.Goals as goal

pub returns-in-Err : goal.returns-in-Err
returns-in-Err g c = out_of_memory g.S.Store _ _ _ _ _ c.error_reply.ensures c.in-Err.ensures
