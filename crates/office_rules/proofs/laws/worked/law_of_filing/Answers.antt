use Rattle.office_rules.proofs.WorkedFiling.{schedule_added, first_class_added, second_class_added, first_root_added, second_root_added, first_record_added, second_record_added, third_record_added, filed}
use Rattle.office_rules.proofs.laws.worked.law_of_filing.Goals as goal

pub returns : goal.returns
returns c = record {
  schedule = schedule_added;
  first_class = first_class_added;
  second_class = second_class_added;
  first_root = first_root_added;
  second_root = second_root_added;
  first_record = first_record_added;
  second_record = second_record_added;
  third_record = third_record_added;
  filed = filed;
}
