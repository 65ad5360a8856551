-- The due day of the first record of the base office where its period begins with an event.
use Rattle.std.proofs.Common.{◌≡◌, ◌&&◌, ℤ, [], ◌∷◌, true, false, Option, Some, None, refl, ap, ◌∙◌}
use Rattle.std.specs.Prelude.{codes}
use Rattle.std.specs.Cmp.{nat_cmp_total}
use Rattle.std.specs.FinMap.{FinMap, get, get-empty, nat_cmp-IsAntisymmetric}
use Rattle.std.specs.Option.{option_map}
use Rattle.std.specs.Ordering.{int_eq, nat_cmp}
use Rattle.office_base.specs.declared.refusal.Refusal.TheVariants.{NotYet}
use Rattle.office_records.specs.Conditions.{first_of}
use Rattle.office_records.specs.Disposal.{confirmation_of, counts, same_action}
use Rattle.office_records.specs.Lists.{is_some_and}
use Rattle.office_records.specs.Tree.{action_of, due_by, due_of, plan_in, plan_of, start_in}
use Rattle.office_records.specs.declared.action.Action.TheVariants.{Destroy}
use Rattle.office_records.specs.declared.event.Event.{Event}
use Rattle.office_records.specs.declared.head.Confirmation.{Confirmation}
use Rattle.office_rules.specs.Conditions.{refusals_of_confirm, refusals_of_event}
use Rattle.office_rules.specs.Meanings.{IsAccepted}
use Rattle.office_rules.specs.Worked.{again_recorded, by_event, classed_office, day_after_due, event_confirmed, event_due, event_office, later_day, later_due, leap_day, recorded_office, recording_day, yearly}
use Rattle.office_rules.proofs.SoundMaps.{put_here}
use Rattle.office_rules.proofs.WorkedBase.{action_where, due_where, schedules}
use Rattle.office_rules.proofs.WorkedConfirming.{by_due, confirming}
use Rattle.office_rules.proofs.WorkedDays.{due_from_later_day, due_from_leap_day}
use Rattle.office_rules.proofs.WorkedMaps.{entries_inserted, get_of_entries}

schedule_there : get event_office.tree.schedules (codes "E") ≡ Some by_event
schedule_there =
    get_of_entries event_office.tree.schedules (codes "E") ((codes "D1", yearly) ∷ (codes "E", by_event) ∷ [])
    (entries_inserted classed_office.tree.schedules (codes "E") ((codes "D1", yearly) ∷ []) schedules by_event)

plan_is : plan_of event_office.tree 1 ≡ Some (codes "E")
unfolding plan_in
plan_is = refl

-- the due day of the record in a tree where its event is that one
abbrev due_with : Option Event → Option ℤ
due_with event = due_by by_event (option_map (λ it. it.occurred) event)

abbrev event_of : ℤ → ℤ → Event
event_of occurred day = record { occurred = occurred; day = day; by = codes "registrar" }

pub no_due_day : due_of event_office.tree 1 ≡ None
unfolding start_in due_by
no_due_day = due_where event_office.tree 1 (codes "E") by_event plan_is schedule_there ∙ ap due_with (get-empty nat_cmp 1)

pub is_recorded : IsAccepted (refusals_of_event event_office recording_day 1 leap_day)
is_recorded = refl

-- ---- its event is recorded

abbrev recorded : FinMap nat_cmp Event
recorded = recorded_office.tree.events

event_there : get recorded 1 ≡ Some (event_of leap_day recording_day)
event_there = put_here nat_cmp_total nat_cmp-IsAntisymmetric event_office.tree.events 1 (event_of leap_day recording_day)

leap_due : due_with (Some (event_of leap_day recording_day)) ≡ Some event_due
unfolding due_by
leap_due = ap (λ (z : ℤ). Some z) due_from_leap_day

pub due_is : due_of recorded_office.tree 1 ≡ Some event_due
unfolding start_in
due_is = due_where recorded_office.tree 1 (codes "E") by_event plan_is schedule_there ∙ ap due_with event_there ∙ leap_due

action_is : action_of recorded_office.tree 1 ≡ Some Destroy
action_is = action_where recorded_office.tree 1 (codes "E") by_event plan_is schedule_there

-- ---- its destruction is confirmed

pub is_confirmed : IsAccepted (refusals_of_confirm recorded_office event_due 1 Destroy)
unfolding by_due
is_confirmed = confirming recorded_office event_due 1 Destroy event_due Destroy due_is action_is

abbrev confirmation : ℤ → Confirmation
confirmation due = record { action = Destroy; due = due; day = event_due; by = codes "registrar" }

stored : confirmation_of event_confirmed.tree 1 ≡ Some (confirmation event_due)
stored = ap (option_map confirmation) due_is

plan_stays : plan_of event_confirmed.tree 1 ≡ Some (codes "E")
unfolding plan_in
plan_stays = refl

due_stays : due_of event_confirmed.tree 1 ≡ Some event_due
unfolding start_in
due_stays = due_where event_confirmed.tree 1 (codes "E") by_event plan_stays schedule_there ∙ ap due_with event_there ∙ leap_due

action_stays : action_of event_confirmed.tree 1 ≡ Some Destroy
action_stays = action_where event_confirmed.tree 1 (codes "E") by_event plan_stays schedule_there

pub confirmation_counts : counts event_confirmed.tree 1 ≡ true
confirmation_counts =
    λ i. is_some_and (stored i) (λ it. is_some_and (action_stays i) (same_action it.action) && is_some_and (due_stays i) (int_eq it.due))

-- ---- another event is recorded

pub is_not_yet : first_of (refusals_of_event event_confirmed event_due 1 day_after_due) ≡ Some NotYet
is_not_yet = refl

pub is_recorded_again : IsAccepted (refusals_of_event event_confirmed event_due 1 later_day)
is_recorded_again = refl

later_there : get again_recorded.tree.events 1 ≡ Some (event_of later_day event_due)
later_there = put_here nat_cmp_total nat_cmp-IsAntisymmetric recorded 1 (event_of later_day event_due)

moved_due : due_with (Some (event_of later_day event_due)) ≡ Some later_due
unfolding due_by
moved_due = ap (λ (z : ℤ). Some z) due_from_later_day

pub due_is_later : due_of again_recorded.tree 1 ≡ Some later_due
unfolding start_in
due_is_later = due_where again_recorded.tree 1 (codes "E") by_event plan_stays schedule_there ∙ ap due_with later_there ∙ moved_due

pub does_not_count : counts again_recorded.tree 1 ≡ false
does_not_count =
    λ i. is_some_and (stored i) (λ it. is_some_and (action_stays i) (same_action it.action) && is_some_and (due_is_later i) (int_eq it.due))
