use Rattle.std.proofs.lemmas.Result.{on_ok_weaker}
use Rattle.office_journal.proofs.Put.{puts_then}
use Rattle.office_journal.proofs.gate.Begun.put.Goals as goal

pub returns : goal.returns
returns c =
    let two = puts_then _ _ _ _ _ c.in_ok-put_text.ensures c.in_ok-put_text-2.ensures in
    let three = puts_then _ _ _ _ _ two c.in_ok-put_digest.ensures in
    on_ok_weaker c.put.result (λ h. puts_then _ _ _ _ _ three h) c.put.ensures
