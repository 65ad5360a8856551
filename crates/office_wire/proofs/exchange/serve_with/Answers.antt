use Rattle.std.proofs.Common.{refl}
use Rattle.std.proofs.lemmas.Result.{err_from_is_err_and}
use Rattle.office_wire.proofs.Replied.{halves_failed, halves_sent, one_failed, one_sent}
use Rattle.office_wire.proofs.exchange.serve_with.Goals as goal

pub returns-clause-served : goal.returns-clause-served
returns-clause-served g c = (one_sent g.S.Store g.R.Read.remaining c.args.reader.now c.answer_next.new.reader g.W.Write.contents c.args.writer.now c.send.new.writer c.args.desk.now c.answer_next.new.desk c.in_ok-sending.sending c.send.result c.in_ok-sending.ensures.next c.send.ensures).call

pub returns-clause-gone : goal.returns-clause-gone
returns-clause-gone g c = λ was.
    let one = one_sent g.S.Store g.R.Read.remaining c.args.reader.now c.answer_next.new.reader g.W.Write.contents c.args.writer.now c.send.new.writer c.args.desk.now c.answer_next.new.desk c.in_ok-sending.sending c.send.result c.in_ok-sending.ensures.next c.send.ensures in
    (one.kept was, one.gone was)

pub returns-clause-unavailable : goal.returns-clause-unavailable
returns-clause-unavailable g c = (one_sent g.S.Store g.R.Read.remaining c.args.reader.now c.answer_next.new.reader g.W.Write.contents c.args.writer.now c.send.new.writer c.args.desk.now c.answer_next.new.desk c.in_ok-sending.sending c.send.result c.in_ok-sending.ensures.next c.send.ensures).reported

pub returns-clause-halves : goal.returns-clause-halves
returns-clause-halves g c =
    halves_sent g.S.Store g.R.Read.remaining _ _ g.W.Write.contents _ _ _ _ c.in_ok-sending.sending c.send.result c.in_ok-sending.ensures.next c.send.ensures

pub returns-in_err-sending-clause-served : goal.returns-in_err-sending-clause-served
returns-in_err-sending-clause-served g c =
    let p = err_from_is_err_and c.from_residual.result c.from_residual.ensures.1 in
    rw p.1 (one_failed g.S.Store g.R.Read.remaining c.args.reader.now c.answer_next.new.reader g.W.Write.contents c.args.writer.now c.args.writer.now c.args.desk.now c.answer_next.new.desk p.0 c.in_err-sending.ensures.next).call

pub returns-in_err-sending-clause-gone : goal.returns-in_err-sending-clause-gone
returns-in_err-sending-clause-gone g c =
    let p = err_from_is_err_and c.from_residual.result c.from_residual.ensures.1 in
    rw p.1 (λ was. (c.in_err-sending.ensures.next.kept was, tt))

pub returns-in_err-sending-clause-unavailable : goal.returns-in_err-sending-clause-unavailable
returns-in_err-sending-clause-unavailable g c =
    let p = err_from_is_err_and c.from_residual.result c.from_residual.ensures.1 in
    rw p.1 (λ is_open gone. tt)

pub returns-in_err-sending-clause-halves : goal.returns-in_err-sending-clause-halves
returns-in_err-sending-clause-halves g c =
    let p = err_from_is_err_and c.from_residual.result c.from_residual.ensures.1 in
    rw p.1 (halves_failed g.S.Store g.R.Read.remaining c.args.reader.now c.answer_next.new.reader g.W.Write.contents c.args.writer.now c.args.writer.now c.args.desk.now c.answer_next.new.desk p.0 c.in_err-sending.ensures.next
    c.in_err-sending.ensures.err refl)
