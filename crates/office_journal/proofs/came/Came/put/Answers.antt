use Rattle.std.proofs.lemmas.Result.{on_ok_weaker}
use Rattle.office_journal.proofs.Put.{puts_then}
use Rattle.office_journal.proofs.came.Came.put.Goals as goal

pub returns : goal.returns
returns c =
    let two = puts_then _ _ _ _ _ c.in_ok-put_who.ensures c.in_ok-put_sum.ensures in
    on_ok_weaker c.put.result (λ h. puts_then _ _ _ _ _ two h) c.put.ensures
