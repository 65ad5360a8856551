use Rattle.office_journal.proofs.Put.{puts_then}
use Rattle.office_journal.proofs.members.put_who.Goals as goal

pub returns : goal.returns
returns c =
    let two = puts_then _ _ _ _ _ c.in_ok-put_text.ensures c.in_ok-put_text-2.ensures in
    let three = puts_then _ _ _ _ _ two c.in_ok-put_text-3.ensures in
    let four = puts_then _ _ _ _ _ three c.in_ok-put_text-4.ensures in
    puts_then _ _ _ _ _ four c.in_ok-put_text-5.ensures
