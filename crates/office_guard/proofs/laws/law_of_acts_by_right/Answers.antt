use Rattle.office_guard.proofs.ByRights.{joined, permitted, reached, resumed}
use Rattle.office_guard.proofs.laws.law_of_acts_by_right.Goals as goal

pub returns : goal.returns
returns c = record { permitted = permitted; resumed = resumed; reached = reached; joined = joined }
