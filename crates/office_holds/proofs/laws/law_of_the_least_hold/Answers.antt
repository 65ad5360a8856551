use Rattle.office_holds.proofs.Covering.{least_covers, none_before, none_covers}
use Rattle.office_holds.proofs.laws.law_of_the_least_hold.Goals as goal

pub returns : goal.returns
returns c = record { covers = least_covers; least = none_before; none = none_covers }
