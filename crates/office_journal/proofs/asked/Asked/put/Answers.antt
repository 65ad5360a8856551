use Rattle.office_journal.proofs.Put.{puts_then}
use Rattle.office_journal.proofs.asked.Asked.put.Goals as goal

pub returns-clause-put : goal.returns-clause-put
returns-clause-put c =
    let two = puts_then _ _ _ _ _ c.in_ok-put_who.ensures c.in_ok-put_text_if_any.ensures in
    let three = puts_then _ _ _ _ _ two c.in_ok-put_text_if_any-2.ensures in
    let four = puts_then _ _ _ _ _ three c.in_ok-put_sum_if_any.ensures in
    let five = puts_then _ _ _ _ _ four c.in_ok-put_json_if_any.ensures.put in
    let six = puts_then _ _ _ _ _ five c.in_ok-put_digest.ensures in
    let seven = puts_then _ _ _ _ _ six c.in_ok-put_json_if_any-2.ensures.put in
    let eight = puts_then _ _ _ _ _ seven c.in_ok-put_json_if_any-3.ensures.put in
    let nine = puts_then _ _ _ _ _ eight c.in_ok-put_contents_if_any.ensures in
    puts_then _ _ _ _ _ nine c.in_ok-put.ensures
