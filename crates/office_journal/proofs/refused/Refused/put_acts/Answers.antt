use Rattle.office_journal.proofs.Put.{puts_then}
use Rattle.office_journal.proofs.refused.Refused.put_acts.Goals as goal

pub returns-clause-put : goal.returns-clause-put
returns-clause-put c =
    let two = puts_then _ _ _ _ _ c.in_ok-put_number_if_any.ensures c.in_ok-put_json_if_any.ensures.put in
    let three = puts_then _ _ _ _ _ two c.in_ok-put_json_if_any-2.ensures.put in
    let four = puts_then _ _ _ _ _ three c.in_ok-put_digest_if_any.ensures in
    let five = puts_then _ _ _ _ _ four c.in_ok-put_json_if_any-3.ensures.put in
    let six = puts_then _ _ _ _ _ five c.in_ok-put_json_if_any-4.ensures.put in
    puts_then _ _ _ _ _ six c.in_ok-put_contents_if_any.ensures
