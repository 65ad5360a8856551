use Rattle.office_commands.proofs.Histories.{files_follow}
use Rattle.office_commands.proofs.RunActs.{reports_contents}
use Rattle.office_commands.proofs.file_history.law_of_file_histories.Goals as goal

pub returns : goal.returns
returns c = record { follow = files_follow; contents = reports_contents c.law_of_fates.ensures }
