use Rattle.office_rules.proofs.Listing.{listed_aggregations, spent_by_number}
use Rattle.office_rules.proofs.laws.disposal_runs.law_of_listed_aggregations.Goals as goal

pub returns : goal.returns
returns c = record { these = listed_aggregations; by_number = spent_by_number }
