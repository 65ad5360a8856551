use Rattle.office_records.proofs.LastAdditions.{last_addition_greatest, no_last_addition}
use Rattle.office_records.proofs.laws.law_of_last_addition.Goals as goal

pub returns : goal.returns
returns c = record { greatest = last_addition_greatest; none = no_last_addition }
