use Rattle.office_rules.proofs.Resuming.{run_is_whole, steps_midway, midway_step, midway_whole, resumed_is_whole, midway_closed}
use Rattle.office_rules.proofs.StepsMade.{made_whole}
use Rattle.office_rules.proofs.laws.resumption.law_of_resumption.Goals as goal

pub returns : goal.returns
returns c = record { ends = run_is_whole; on_the_way = steps_midway; goes_on = midway_step; same = midway_whole; resumed = resumed_is_whole; closed = midway_closed; made = made_whole }
