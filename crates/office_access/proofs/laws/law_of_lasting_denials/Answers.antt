use Rattle.office_access.proofs.Lasting.{lasts}
use Rattle.office_access.proofs.laws.law_of_lasting_denials.Goals as goal

pub returns : goal.returns
returns c = lasts
