use Rattle.office_records.proofs.SpentAggregations.{spent_where}
use Rattle.office_records.proofs.laws.law_of_spent_aggregations.Goals as goal

pub returns : goal.returns
returns c = record { spent = spent_where }
