use Rattle.office_rules.proofs.WorkedClosing.{child_open, child_is_closed, both_spent, child_spent}
use Rattle.office_rules.proofs.laws.worked.law_of_closing.Goals as goal

pub returns : goal.returns
returns c = record { child_open = child_open; child_closed = child_is_closed; both = both_spent; child = child_spent }
