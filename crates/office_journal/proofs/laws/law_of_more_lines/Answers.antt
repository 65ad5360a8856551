use Rattle.office_journal.proofs.Noted.{more_lines}
use Rattle.office_journal.proofs.laws.law_of_more_lines.Goals as goal

pub returns : goal.returns
returns c = more_lines
