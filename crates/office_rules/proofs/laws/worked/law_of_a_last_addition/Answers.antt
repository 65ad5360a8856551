use Rattle.office_rules.proofs.WorkedClosing.{later_addition, one_addition, no_addition}
use Rattle.office_rules.proofs.laws.worked.law_of_a_last_addition.Goals as goal

pub returns : goal.returns
returns c = record { later = later_addition; alone = one_addition; no_other = no_addition }
