use Rattle.office_evidence.proofs.Truths.{true_from_new, true_since}
use Rattle.office_evidence.proofs.laws.truth.law_of_a_true_certificate.Goals as goal

pub returns : goal.returns
returns c = record { new_office = true_from_new; since = true_since }
