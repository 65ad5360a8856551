use Rattle.office_rules.proofs.CompleteRuns.{destroyed, entered, gone}
use Rattle.office_rules.proofs.laws.disposal_runs.law_of_complete_runs.Goals as goal

pub returns : goal.returns
returns c = record { entered = entered; gone = gone; destroyed = destroyed }
