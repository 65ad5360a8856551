use Rattle.office_commands.proofs.FileAlone.{closed_or_hindered, command_alone}
use Rattle.office_commands.proofs.closed_file.law_of_a_closed_file.Goals as goal

pub returns : goal.returns
returns g c = record {
  closing = closed_or_hindered;
  command = command_alone c.law_of_one_database.ensures.one c.law_of_soundness.ensures.step c.law_of_resumption.ensures.ends;
}
