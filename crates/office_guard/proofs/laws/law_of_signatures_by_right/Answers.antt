use Rattle.office_guard.proofs.SignedByRight.{confirmed_after, signed_at}
use Rattle.office_guard.proofs.laws.law_of_signatures_by_right.Goals as goal

pub returns : goal.returns
returns c = record { acts = signed_at; confirmations = confirmed_after }
