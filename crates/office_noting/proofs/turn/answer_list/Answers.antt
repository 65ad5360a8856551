use Rattle.office_json.specs.Lists.{acts_in}
use Rattle.office_noting.proofs.Listed.{left_out}
use Rattle.office_noting.proofs.turn.answer_list.Goals as goal

pub returns-in-Err : goal.returns-in-Err
returns-in-Err g c =
    let read = acts_in c.args.body.now in
    left_out g.W.Write.contents g.S.Store c.args.visit.now c.args.body.now read _ _ _ (c.unread_reply.ensures read c.in-Err.ensures.err)
