use Rattle.office_evidence.proofs.Lasting.{certificate_stays, entry_stays}
use Rattle.office_evidence.proofs.laws.truth.law_of_lasting_evidence.Goals as goal

pub returns : goal.returns
returns c = record { entry = entry_stays; certificate = certificate_stays }
