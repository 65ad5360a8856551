use Rattle.office_guard.proofs.SignedLines.{signed_line, signed_opening}
use Rattle.office_guard.proofs.laws.law_of_certificates_by_right.Goals as goal

pub returns : goal.returns
returns c = record { lines = λ deeds day place line. signed_line deeds place line day; openings = signed_opening }
