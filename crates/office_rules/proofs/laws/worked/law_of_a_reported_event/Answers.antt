use Rattle.office_rules.proofs.WorkedDays.{civil_event_due, civil_leap_day}
use Rattle.office_rules.proofs.WorkedEvents.{confirmation_counts, does_not_count, due_is, due_is_later, is_confirmed, is_not_yet, is_recorded, is_recorded_again, no_due_day}
use Rattle.office_rules.proofs.laws.worked.law_of_a_reported_event.Goals as goal

pub returns : goal.returns
returns c = record {
  not_due = no_due_day;
  accepted = is_recorded;
  days = (civil_leap_day, civil_event_due);
  due = due_is;
  confirmed = is_confirmed;
  counted = confirmation_counts;
  not_yet = is_not_yet;
  again = is_recorded_again;
  later = due_is_later;
  not_counted = does_not_count;
}
