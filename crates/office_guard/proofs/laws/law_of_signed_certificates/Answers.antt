use Rattle.office_rules.specs.State.{empty_state}
use Rattle.office_guard.proofs.ByRights.{permitted}
use Rattle.office_guard.proofs.SignedLines.{signed_line, signed_opening}
use Rattle.office_guard.proofs.laws.law_of_signed_certificates.Goals as goal

pub returns : goal.returns
returns c = record {
  lines = λ deeds day place line all. signed_line deeds place line day (permitted empty_state deeds all);
  openings = λ s deeds place run day by all. signed_opening s deeds place run day by (permitted s deeds all);
}
