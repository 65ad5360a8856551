use Rattle.office_rules.proofs.Listing.{listed_entries, listed_by_number}
use Rattle.office_rules.proofs.laws.disposal_runs.law_of_listed_entries.Goals as goal

pub returns : goal.returns
returns c = record { these = listed_entries; by_number = listed_by_number }
