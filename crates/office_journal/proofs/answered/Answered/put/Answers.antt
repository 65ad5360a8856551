use Rattle.office_journal.proofs.Put.{puts_then}
use Rattle.office_journal.proofs.answered.Answered.put.Goals as goal

pub returns-clause-put : goal.returns-clause-put
returns-clause-put c =
    let two = puts_then _ _ _ _ _ c.in_ok-put_text.ensures c.in_ok-put_text-2.ensures in
    let three = puts_then _ _ _ _ _ two c.in_ok-put_number.ensures in
    let four = puts_then _ _ _ _ _ three c.in_ok-put_number-2.ensures in
    let five = puts_then _ _ _ _ _ four c.in_ok-put_json_if_any.ensures.put in
    let six = puts_then _ _ _ _ _ five c.in_ok-put_json_if_any-2.ensures.put in
    let seven = puts_then _ _ _ _ _ six c.in_ok-put_json_if_any-3.ensures.put in
    let eight = puts_then _ _ _ _ _ seven c.in_ok-put_text_if_any.ensures in
    let nine = puts_then _ _ _ _ _ eight c.in_ok-put_flag_if.ensures in
    let ten = puts_then _ _ _ _ _ nine c.in_ok-put_flag_if-2.ensures in
    puts_then _ _ _ _ _ ten c.in_ok-put.ensures
