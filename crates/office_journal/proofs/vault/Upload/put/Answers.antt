use Rattle.std.proofs.lemmas.Result.{on_ok_weaker}
use Rattle.office_journal.proofs.Put.{puts_then}
use Rattle.office_journal.proofs.vault.Upload.put.Goals as goal

pub returns : goal.returns
returns c =
    let two = puts_then _ _ _ _ _ c.in_ok-put_who.ensures c.in_ok-put_text_if_any.ensures in
    let three = puts_then _ _ _ _ _ two c.in_ok-put_text_if_any-2.ensures in
    on_ok_weaker c.put.result (λ h. puts_then _ _ _ _ _ three h) c.put.ensures
