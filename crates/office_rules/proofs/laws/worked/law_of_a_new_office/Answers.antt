use Rattle.office_rules.proofs.WorkedNewOffice.{opens, closes, has_no_run, has_certificate}
use Rattle.office_rules.proofs.laws.worked.law_of_a_new_office.Goals as goal

pub returns : goal.returns
returns c = record { opened = opens; closed = closes; no_run = has_no_run; certificate = has_certificate }
