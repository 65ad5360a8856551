-- A record that is ended stays ended, and an act that opens no run and takes no step leaves runs and entries alone.
use Rattle.std.proofs.Common.{◌≡◌, ℕ, zero, suc, ℤ, Bool, true, false, cond, not, List, [], ◌∷◌, ◌++◌, length, Option, Some, None, refl, sym, ap, ◌∙◌}
use Rattle.std.specs.Prelude.{int_lt, slice_get}
use Rattle.std.specs.Str.{bytes_eq}
use Rattle.office_base.specs.declared.refusal.Refusal.{Refusal}
use Rattle.office_base.specs.declared.refusal.Refusal.TheVariants as refusal
use Rattle.office_records.specs.Conditions.{first_of, has_ended}
use Rattle.office_records.specs.Disposal.{is_ended, is_sent}
use Rattle.office_records.specs.Lists.{edited, edited_at, is_some_and, numbered}
use Rattle.office_records.specs.Tree.{TreeState, has_record, status_of}
use Rattle.office_records.specs.declared.classified.Classified.{Classified}
use Rattle.office_records.specs.declared.classified.Classified.TheVariants as classified
use Rattle.office_records.specs.declared.status.Status.{Status}
use Rattle.office_records.specs.declared.status.Status.TheVariants as status
use Rattle.office_rules.specs.Acts.{step}
use Rattle.office_rules.specs.Conditions.{refusals_of_add_schedule, refusals_of_add_class, refusals_of_set_class_schedule, refusals_of_add_aggregation, refusals_of_close_aggregation, refusals_of_set_record_schedule, refusals_of_reclassify, refusals_of_confirm, refusals_of_review, refusals_of_receipt, refusals_of_event, refusals_of_place_hold, refusals_of_hold_on, refusals_of_hold_off, refusals_of_lift_hold, same_record}
use Rattle.office_rules.specs.Effects.{after_add_schedule, after_add_class, after_set_class_schedule, after_add_aggregation, after_close_aggregation, after_set_record_schedule, after_reclassify, after_confirm, after_review, after_receipt, after_event, after_place_hold, after_hold_on, after_hold_off, after_lift_hold, with_new_record}
use Rattle.office_rules.specs.NewRecords.{NewRecord, new_record}
use Rattle.office_rules.specs.State.{State, Office, with_office}
use Rattle.office_rules.specs.Steps.{by_refusal, by_same_record}
use Rattle.office_rules.specs.declared.act.Act.{Act}
use Rattle.office_rules.specs.declared.act.Act.TheVariants as act
use Rattle.office_rules.specs.declared.answer.Answer.{Answer}
use Rattle.office_rules.specs.declared.answer.Answer.TheVariants as answer
use Rattle.office_access.specs.Eyes.{is_left}

-- ---- lists of statuses

abbrev pub is_ended_at : List Status → ℕ → Bool
is_ended_at statuses r = is_some_and (numbered statuses r) is_ended

both_ways : (b : Bool) → b ≡ false → b ≡ true → ⊥
both_ways true off on = absurd cc
both_ways false off on = absurd cc

edited_place : (xs : List Status) (i k : ℕ) (f : Status → Status) → is_some_and (slice_get xs i) is_ended ≡ false → is_some_and (slice_get xs k) is_ended ≡ true → is_some_and (slice_get (edited_at xs i f) k) is_ended ≡ true
edited_place [] i k f off on = on
edited_place (x ∷ xs) zero zero f off on = absurd (both_ways (is_ended x) off on)
edited_place (x ∷ xs) zero (suc k) f off on = on
edited_place (x ∷ xs) (suc i) zero f off on = on
edited_place (x ∷ xs) (suc i) (suc k) f off on = edited_place xs i k f off on

-- a change of one that is not ended
pub ended_edited : (xs : List Status) (n r : ℕ) (f : Status → Status) → is_ended_at xs n ≡ false → is_ended_at xs r ≡ true → is_ended_at (edited xs n f) r ≡ true
ended_edited xs zero r f off on = on
ended_edited xs (suc i) zero f off on = on
ended_edited xs (suc i) (suc k) f off on = edited_place xs i k f off on

pushed_place : (xs : List Status) (x : Status) (k : ℕ) → is_some_and (slice_get xs k) is_ended ≡ true → is_some_and (slice_get (xs ++ x ∷ []) k) is_ended ≡ true
pushed_place [] x k on = absurd cc
pushed_place (y ∷ xs) x zero on = on
pushed_place (y ∷ xs) x (suc k) on = pushed_place xs x k on

pub ended_pushed : (xs : List Status) (x : Status) (r : ℕ) → is_ended_at xs r ≡ true → is_ended_at (xs ++ x ∷ []) r ≡ true
ended_pushed xs x zero on = on
ended_pushed xs x (suc k) on = pushed_place xs x k on

-- what is left after was left before, where what was ended stays so
pub left_before : (a b : Bool) → (a ≡ true → b ≡ true) → not b ≡ true → not a ≡ true
left_before true b keeps left = ap not (sym (keeps refl)) ∙ left
left_before false b keeps left = refl

pub not_ended : (b : Bool) → not b ≡ true → b ≡ false
not_ended true h = absurd cc
not_ended false h = refl

-- ---- one act

-- runs and entries are the same, and what is left was left
pub record Frame (s t : State) : Type 0 where
  pub runs : t.office.runs ≡ s.office.runs
  pub entries : t.office.entries ≡ s.office.entries
  pub left : (r : ℕ) → is_left t.office.tree r ≡ true → is_left s.office.tree r ≡ true

same_statuses : (s t : State) → t.office.runs ≡ s.office.runs → t.office.entries ≡ s.office.entries → t.office.tree.statuses ≡ s.office.tree.statuses → Frame s t
same_statuses s t runs entries statuses = record {
  runs = runs;
  entries = entries;
  left = λ r left. ap (λ xs. not (is_ended_at xs r)) (sym statuses) ∙ left;
}

more_ended : (s t : State) → t.office.runs ≡ s.office.runs → t.office.entries ≡ s.office.entries → ((r : ℕ) → is_ended_at s.office.tree.statuses r ≡ true → is_ended_at t.office.tree.statuses r ≡ true) → Frame s t
more_ended s t runs entries keeps = record {
  runs = runs;
  entries = entries;
  left = λ r left. left_before (is_ended_at s.office.tree.statuses r) (is_ended_at t.office.tree.statuses r) (keeps r) left;
}

refused : (s : State) (o : Option Refusal) (reported : Answer) (t : State) → (o ≡ None → Frame s t) → Frame s (by_refusal o s reported t).1
refused s (Some refusal) reported t frame = same_statuses s s refl refl refl
refused s None reported t frame = frame refl

plain : (s : State) (o : Option Refusal) (reported : Answer) (t : Office) → t.runs ≡ s.office.runs → t.entries ≡ s.office.entries → t.tree.statuses ≡ s.office.tree.statuses → Frame s (by_refusal o s reported (with_office s t)).1
plain s o reported t runs entries statuses = refused s o reported (with_office s t) (λ none. same_statuses s (with_office s t) runs entries statuses)

if_none : (d : Refusal) (b : Bool) (rest : Option Refusal) → cond b (Some d) rest ≡ None → (b ≡ false) × (rest ≡ None)
if_none d true rest h = absurd cc
if_none d false rest h = (refl, h)

third_off : (a b c : Refusal × Bool) (rest : List (Refusal × Bool)) → first_of (a ∷ b ∷ c ∷ rest) ≡ None → c.1 ≡ false
third_off a b c rest h =
    let one = if_none a.0 a.1 (first_of (b ∷ c ∷ rest)) h in
    let two = if_none b.0 b.1 (first_of (c ∷ rest)) one.1 in
    (if_none c.0 c.1 (first_of rest) two.1).0

filed : (s : State) (day : ℤ) (new : NewRecord) (o : Option ℕ) → Frame s (by_same_record o s day new).1
filed s day new (Some r) = same_statuses s s refl refl refl
filed s day new None =
    refused s _ _ (with_new_record s day new) (λ none. more_ended s (with_new_record s day new) refl refl (λ r on. ended_pushed s.office.tree.statuses status.Here r on))

receipted : (s : State) (day : ℤ) (r : ℕ) (digest by : List ℕ) → first_of (refusals_of_receipt s.office day r digest) ≡ None → Frame s (with_office s (after_receipt s.office day r by))
receipted s day r digest by none =
    let off : is_ended_at s.office.tree.statuses r ≡ false =
    third_off (refusal.DayBack, int_lt day s.office.day) (refusal.NoSuch, not (has_record s.office.tree r)) (refusal.Ended, has_ended s.office.tree r)
    ((refusal.NotSent, is_some_and (status_of s.office.tree r) (λ it. not (is_sent it))) ∷ (refusal.WrongDigest, is_some_and (numbered s.office.tree.records r) (λ head. not (bytes_eq head.digest digest))) ∷ [])
    none in
    more_ended s (with_office s (after_receipt s.office day r by)) refl refl (λ q on. ended_edited s.office.tree.statuses r q (λ _. status.Received) off on)

classed : (s : State) (day : ℤ) (what : Classified) (class : Option (List ℕ)) → Frame s (with_office s (after_reclassify s.office day what class))
classed s day (classified.Aggregation n) class = same_statuses s (with_office s (after_reclassify s.office day (classified.Aggregation n) class)) refl refl refl
classed s day (classified.Record n) class = same_statuses s (with_office s (after_reclassify s.office day (classified.Record n) class)) refl refl refl

-- an act that opens no run and takes no step
abbrev pub IsBesideRuns : Act → Type 0
IsBesideRuns (act.OpenRun day by) = ⊥
IsBesideRuns act.RunStep = ⊥
IsBesideRuns _ = Unit {0}

pub framed : (s : State) (a : Act) → IsBesideRuns a → Frame s (step s a).1
unfolding step
framed s (act.AddSchedule day code trigger period offset action) beside =
    plain s (first_of (refusals_of_add_schedule s.office day code)) answer.Done (after_add_schedule s.office day code (record { trigger = trigger; period = period; offset = offset; action = action })) refl refl refl
framed s (act.AddClass day code title schedule) beside =
    plain s (first_of (refusals_of_add_class s.office day code (record { title = title; schedule = schedule }))) answer.Done (after_add_class s.office day code (record { title = title; schedule = schedule })) refl refl refl
framed s (act.SetClassSchedule day class schedule) beside =
    plain s (first_of (refusals_of_set_class_schedule s.office day class schedule)) answer.Done (after_set_class_schedule s.office day class schedule) refl refl refl
framed s (act.AddAggregation day ref_text title parent class) beside =
    plain s (first_of (refusals_of_add_aggregation s.office day ref_text parent class)) (answer.Number (suc (length s.office.tree.aggregations))) (after_add_aggregation s.office day ref_text title parent class) refl refl refl
framed s (act.CloseAggregation day n) beside =
    plain s (first_of (refusals_of_close_aggregation s.office day n)) answer.Done (after_close_aggregation s.office day n) refl refl refl
framed s (act.AddRecord day ref_text title originated aggregation class schedule content) beside =
    let new = new_record ref_text title originated aggregation class schedule content in
    filed s day new (same_record s.office new)
framed s (act.SetRecordSchedule day n schedule) beside =
    plain s (first_of (refusals_of_set_record_schedule s.office day n schedule)) answer.Done (after_set_record_schedule s.office day n schedule) refl refl refl
framed s (act.Reclassify day what class) beside =
    refused s (first_of (refusals_of_reclassify s.office day what class)) answer.Done (with_office s (after_reclassify s.office day what class)) (λ none. classed s day what class)
framed s (act.Confirm day n named by) beside =
    plain s (first_of (refusals_of_confirm s.office day n named)) answer.Done (after_confirm s.office day n named by) refl refl refl
framed s (act.Review day n schedule by) beside =
    plain s (first_of (refusals_of_review s.office day n schedule)) answer.Done (after_review s.office day n schedule by) refl refl refl
framed s (act.Receipt day n digest by) beside =
    refused s (first_of (refusals_of_receipt s.office day n digest)) answer.Done (with_office s (after_receipt s.office day n by)) (λ none. receipted s day n digest by none)
framed s (act.Event day n occurred by) beside =
    plain s (first_of (refusals_of_event s.office day n occurred)) answer.Done (after_event s.office day n occurred by) refl refl refl
framed s (act.PlaceHold day code reason by) beside =
    plain s (first_of (refusals_of_place_hold s.office day code)) answer.Done (after_place_hold s.office day code reason by) refl refl refl
framed s (act.HoldOn day code target) beside =
    plain s (first_of (refusals_of_hold_on s.office day code target)) answer.Done (after_hold_on s.office day code target) refl refl refl
framed s (act.HoldOff day code target) beside =
    plain s (first_of (refusals_of_hold_off s.office day code target)) answer.Done (after_hold_off s.office day code target) refl refl refl
framed s (act.LiftHold day code) beside =
    plain s (first_of (refusals_of_lift_hold s.office day code)) answer.Done (after_lift_hold s.office day code) refl refl refl
framed s (act.OpenRun day by) beside = absurd beside
framed s act.RunStep beside = absurd beside
