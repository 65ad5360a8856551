use Rattle.office_commands.proofs.Histories.{killed_lead, runs_lead}
use Rattle.office_commands.proofs.file_history.law_of_each_run.Goals as goal

pub returns : goal.returns
returns g c =
    let one = c.law_of_one_database.ensures.one in
    let sound = c.law_of_soundness.ensures in
    let ends = c.law_of_resumption.ensures.ends in
    record { ran = runs_lead one sound.step sound.empty ends; killed = killed_lead one sound.step sound.empty ends }
