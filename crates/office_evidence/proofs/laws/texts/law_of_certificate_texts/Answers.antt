use Rattle.office_evidence.proofs.CertificateTexts.{certificate_utf8}
use Rattle.office_evidence.proofs.KeptTexts.{utf8_from_new, utf8_kept}
use Rattle.office_evidence.proofs.laws.texts.law_of_certificate_texts.Goals as goal

pub returns : goal.returns
returns c = record { text = certificate_utf8; kept = utf8_kept; new_office = utf8_from_new }
