use Rattle.office_records.proofs.Containing.{below_contains, class_nearest, aggregation_class_nearest}
use Rattle.office_records.proofs.laws.law_of_classification.Goals as goal

pub returns : goal.returns
returns c = record { above = below_contains; class = class_nearest; aggregation = aggregation_class_nearest }
