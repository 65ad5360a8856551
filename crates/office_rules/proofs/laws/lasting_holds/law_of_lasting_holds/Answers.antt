use Rattle.office_rules.proofs.KeptHolds.{kept_step}
use Rattle.office_rules.proofs.laws.lasting_holds.law_of_lasting_holds.Goals as goal

pub returns : goal.returns
returns c = record { step = kept_step }
