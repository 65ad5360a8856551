use Rattle.office_rules.proofs.Repeating.{reported_again, reported_each}
use Rattle.office_rules.proofs.laws.repeated_records.law_of_repeated_records.Goals as goal

pub returns : goal.returns
returns c = record { reported = reported_again; again = reported_each }
