use Rattle.office_journal.proofs.Written.{lead_of}
use Rattle.office_journal.proofs.laws.law_of_written_lines.Goals as goal

pub returns : goal.returns
returns c = lead_of
