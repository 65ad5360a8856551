use Rattle.office_rules.proofs.WorkedRepeating.{is_same, is_reported, is_other, is_refused}
use Rattle.office_rules.proofs.laws.worked.law_of_a_repeated_record.Goals as goal

pub returns : goal.returns
returns c = record { same = is_same; reported = is_reported; other_title = is_other; refused = is_refused }
