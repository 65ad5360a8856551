use Rattle.office_rules.proofs.WorkedBase.{class_is, class_is_2, class_is_3, plan_is, plan_is_2, plan_is_3, due_is, due_is_2, due_is_3}
use Rattle.office_rules.proofs.WorkedConfirming.{is_not_due, is_wrong_action, is_confirmed, is_day_back, confirmation_counts, other_does_not_count, third_does_not_count}
use Rattle.office_rules.proofs.WorkedDays.{civil_filing, civil_due}
use Rattle.office_rules.proofs.laws.worked.law_of_the_base_office.Goals as goal

pub returns : goal.returns
returns c = record {
  class = (class_is, class_is_2, class_is_3);
  plan = (plan_is, plan_is_2, plan_is_3);
  filing = civil_filing;
  due = (due_is, due_is_2, due_is_3);
  due_day = civil_due;
  not_due = is_not_due;
  wrong_action = is_wrong_action;
  accepted = is_confirmed;
  day_back = is_day_back;
  counted = confirmation_counts;
  not_counted = (other_does_not_count, third_does_not_count);
}
