use Rattle.office_rules.proofs.OneState.{one_state, one_office}
use Rattle.office_rules.proofs.laws.rows.law_of_one_state.Goals as goal

pub returns : goal.returns
returns c = record { one = one_state; tables = one_office }
