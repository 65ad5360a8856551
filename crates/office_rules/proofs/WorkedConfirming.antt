-- When the first record of the base office may be confirmed, and for what the confirmation counts.
use Rattle.std.proofs.Common.{◌≡◌, ◌&&◌, ◌||◌, not, ℕ, List, [], ◌∷◌, Bool, true, false, Some, ℤ, refl, ap}
use Rattle.std.specs.Prelude.{codes, int_lt, int_le}
use Rattle.std.specs.Option.{option_map}
use Rattle.std.specs.Ordering.{int_eq}
use Rattle.office_base.specs.declared.refusal.Refusal.{Refusal}
use Rattle.office_base.specs.declared.refusal.Refusal.TheVariants.{DayBack, NoSuch, Ended, InTransfer, NotDue, WrongAction}
use Rattle.office_records.specs.Conditions.{first_of, has_ended, is_under_way}
use Rattle.office_records.specs.Disposal.{same_action, confirmation_of, counts}
use Rattle.office_records.specs.Lists.{is_some_and}
use Rattle.office_records.specs.Tree.{class_in, above_in, chain, start_in, has_record, class_of, plan_of, due_of, action_of}
use Rattle.office_records.specs.declared.action.Action.{Action}
use Rattle.office_records.specs.declared.action.Action.TheVariants.{Review, Transfer, Destroy}
use Rattle.office_records.specs.declared.head.Confirmation.{Confirmation}
use Rattle.office_rules.specs.Conditions.{refusals_of_confirm, refusals_of_open_run}
use Rattle.office_rules.specs.Meanings.{IsAccepted}
use Rattle.office_rules.specs.State.{Office}
use Rattle.office_rules.specs.Worked.{filing_due, day_before_due, class_titled, base_office, confirmed_office}
use Rattle.office_rules.proofs.WorkedBase.{due_is, action_is, plan_where, planned_due, planned_action, finance_there, schedule_there}

-- the table of a confirmation by the due day and the action of the plan
unfoldable pub by_due : Office → ℤ → ℕ → Action → ℤ → Action → List (Refusal × Bool)
by_due s day r named due action =
    (DayBack, int_lt day s.day)
    ∷ (NoSuch, not (has_record s.tree r))
    ∷ (Ended, has_ended s.tree r)
    ∷ (InTransfer, is_under_way s.tree r)
    ∷ (NotDue, has_record s.tree r && not (int_le due day))
    ∷ (WrongAction, (has_record s.tree r && not (same_action named action)) || same_action named Review)
    ∷ []

pub confirming : (s : Office) (day : ℤ) (r : ℕ) (named : Action) (due : ℤ) (action : Action) → due_of s.tree r ≡ Some due → action_of s.tree r ≡ Some action → first_of (refusals_of_confirm s day r named) ≡ first_of (by_due s day r named due action)
unfolding by_due
confirming s day r named due action d a =
    λ i. first_of (
    (DayBack, int_lt day s.day)
    ∷ (NoSuch, not (has_record s.tree r))
    ∷ (Ended, has_ended s.tree r)
    ∷ (InTransfer, is_under_way s.tree r)
    ∷ (NotDue, has_record s.tree r && not (is_some_and (d i) (λ due. int_le due day)))
    ∷ (WrongAction, (has_record s.tree r && not (is_some_and (a i) (same_action named))) || same_action named Review)
    ∷ [])

pub is_not_due : first_of (refusals_of_confirm base_office day_before_due 1 Destroy) ≡ Some NotDue
unfolding by_due
is_not_due = confirming base_office day_before_due 1 Destroy filing_due Destroy due_is action_is

pub is_wrong_action : first_of (refusals_of_confirm base_office filing_due 1 Transfer) ≡ Some WrongAction
unfolding by_due
is_wrong_action = confirming base_office filing_due 1 Transfer filing_due Destroy due_is action_is

pub is_confirmed : IsAccepted (refusals_of_confirm base_office filing_due 1 Destroy)
unfolding by_due
is_confirmed = confirming base_office filing_due 1 Destroy filing_due Destroy due_is action_is

pub is_day_back : first_of (refusals_of_open_run confirmed_office day_before_due) ≡ Some DayBack
is_day_back = refl

abbrev confirmation : ℤ → Confirmation
confirmation due = record { action = Destroy; due = due; day = filing_due; by = codes "registrar" }

stored : confirmation_of confirmed_office.tree 1 ≡ Some (confirmation filing_due)
stored = ap (option_map confirmation) due_is

class_after : class_of confirmed_office.tree 1 ≡ Some (codes "FIN")
unfolding class_in above_in chain
class_after = refl

plan_after : plan_of confirmed_office.tree 1 ≡ Some (codes "D1")
plan_after = plan_where confirmed_office.tree 1 (codes "FIN") (class_titled (codes "FIN")) refl class_after finance_there

due_after : due_of confirmed_office.tree 1 ≡ Some filing_due
unfolding start_in
due_after = planned_due confirmed_office.tree 1 plan_after schedule_there refl

action_after : action_of confirmed_office.tree 1 ≡ Some Destroy
action_after = planned_action confirmed_office.tree 1 plan_after schedule_there

pub confirmation_counts : counts confirmed_office.tree 1 ≡ true
confirmation_counts =
    λ i. is_some_and (stored i) (λ it. is_some_and (action_after i) (same_action it.action) && is_some_and (due_after i) (int_eq it.due))

pub other_does_not_count : counts confirmed_office.tree 2 ≡ false
other_does_not_count = refl

pub third_does_not_count : counts confirmed_office.tree 3 ≡ false
third_does_not_count = refl
