use Rattle.office_guard.proofs.StandIns.{two_people_by_right}
use Rattle.office_guard.proofs.laws.law_of_two_people_by_right.Goals as goal

pub returns : goal.returns
returns c = two_people_by_right
