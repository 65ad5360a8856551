use Rattle.office_access.proofs.OneName.{one_name}
use Rattle.office_access.proofs.laws.law_of_names.Goals as goal

pub returns : goal.returns
returns c = one_name
