use Rattle.office_journal.proofs.Joined.{joined}
use Rattle.office_journal.proofs.laws.law_of_joined_requests.Goals as goal

pub returns : goal.returns
returns c = joined
