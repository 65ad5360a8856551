use Rattle.office_journal.proofs.ReadBack.{read_back}
use Rattle.office_journal.proofs.laws.law_of_a_line_read_back.Goals as goal

pub returns : goal.returns
returns c = read_back
