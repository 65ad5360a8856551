use Rattle.office_rules.proofs.WorkedHolds.{second_held, first_free, least_is, least_after_lifting, free_after_taking_off, held_by_both, held_by_one, leaving_is_refused, staying_is_accepted}
use Rattle.office_rules.proofs.laws.worked.law_of_a_held_class.Goals as goal

pub returns : goal.returns
returns c = record {
  held = second_held;
  not_held = first_free;
  least = least_is;
  after_lifting = least_after_lifting;
  after_taking_off = free_after_taking_off;
  both_classes = held_by_both;
  one_class_left = held_by_one;
  leaving = leaving_is_refused;
  staying = staying_is_accepted;
}
