use Rattle.std.proofs.lemmas.Result.{on_ok_weaker}
use Rattle.office_journal.proofs.Put.{puts_then}
use Rattle.office_journal.proofs.preceding.Preceding.put.Goals as goal

pub returns : goal.returns
returns c = on_ok_weaker c.put_file_if_any.result (λ h. puts_then _ _ _ _ _ c.in_ok-put_sum_if_any.ensures h) c.put_file_if_any.ensures
