use Rattle.office_guard.proofs.Deeds.{all_deeds, all_through, joined, one_denied}
use Rattle.office_guard.proofs.laws.law_of_permitted_acts.Goals as goal

pub returns : goal.returns
returns c = record { each = all_deeds; all = all_through; denied = one_denied; joined = joined }
