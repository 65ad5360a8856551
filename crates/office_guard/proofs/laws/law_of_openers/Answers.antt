use Rattle.office_guard.proofs.Openers.{taken_by_another, taken_by_other_names, written_by_another}
use Rattle.office_guard.proofs.laws.law_of_openers.Goals as goal

pub returns : goal.returns
returns c = record { steps = taken_by_another; openings = taken_by_other_names; entries = written_by_another }
