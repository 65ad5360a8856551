use Rattle.office_rules.proofs.Certifying.{certificate_stored, other_certificates}
use Rattle.office_rules.proofs.laws.disposal_runs.law_of_the_certificate.Goals as goal

pub returns : goal.returns
returns c = record { closed = certificate_stored; others = other_certificates }
