use Rattle.office_holds.proofs.Covering.{held_where}
use Rattle.office_holds.proofs.laws.law_of_holds.Goals as goal

pub returns : goal.returns
returns c = record { held = held_where }
