use Rattle.office_access.proofs.TwoPeople.{two_people}
use Rattle.office_access.proofs.laws.law_of_two_people.Goals as goal

pub returns : goal.returns
returns c = two_people
