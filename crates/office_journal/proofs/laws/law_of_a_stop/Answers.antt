use Rattle.office_journal.proofs.Noted.{stopped}
use Rattle.office_journal.proofs.laws.law_of_a_stop.Goals as goal

pub returns : goal.returns
returns c = stopped
