use Rattle.std.proofs.Common.{refl}
use Rattle.office_wire.proofs.Replied.{halves_sent, one_sent, unrouted_next}
use Rattle.office_wire.proofs.exchange.serve_one.Goals as goal

pub returns-in-Err-clause-served : goal.returns-in-Err-clause-served
returns-in-Err-clause-served g c =
    (one_sent g.S.Store g.R.Read.remaining c.args.reader.now c.args.reader.now g.W.Write.contents c.args.writer.now c.send.new.writer c.args.desk.now c.args.desk.now c.error_to_send.result c.send.result (unrouted_next g.S.Store _ _ _ c.error_to_send.result refl c.error_to_send.ensures) c.send.ensures).call

pub returns-in-Err-clause-gone : goal.returns-in-Err-clause-gone
returns-in-Err-clause-gone g c = λ was.
    let one = one_sent g.S.Store g.R.Read.remaining c.args.reader.now c.args.reader.now g.W.Write.contents c.args.writer.now c.send.new.writer c.args.desk.now c.args.desk.now c.error_to_send.result c.send.result (unrouted_next g.S.Store _ _ _ c.error_to_send.result refl c.error_to_send.ensures) c.send.ensures in
    (one.kept was, one.gone was)

pub returns-in-Err-clause-halves : goal.returns-in-Err-clause-halves
returns-in-Err-clause-halves g c =
    halves_sent g.S.Store g.R.Read.remaining _ _ g.W.Write.contents _ _ _ _ c.error_to_send.result c.send.result (unrouted_next g.S.Store _ _ _ c.error_to_send.result refl c.error_to_send.ensures) c.send.ensures
