use Rattle.office_access.proofs.Exact.{resumes_exactly}
use Rattle.office_gate.proofs.Visits.{not_all}
use Rattle.office_guard.proofs.Deeds.{all_deeds, one_denied}
use Rattle.office_gate.proofs.laws.law_of_visits.Goals as goal

pub returns : goal.returns
returns c = record {
  performed = λ v s acts. all_deeds v.settings v.today v.name s acts;
  denied = λ v s acts it h. one_denied v.settings v.today v.name s acts (not_all v it s acts h);
  resumed = λ v s h. (resumes_exactly v.settings s v.name).0 h;
}
