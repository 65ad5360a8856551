-- Each row of a sound state is of its form.
use Rattle.std.proofs.Common.{◌≡◌, ℕ, zero, suc, ◌+◌, ◌<◌, ◌^◌, true, List, [], ◌∷◌, map, length, Option, Some, None, inl, inr, refl, sym, ap, subst, arith}
use Rattle.std.specs.Cmp.{nat_cmp_total}
use Rattle.std.specs.Cmp.Lexicographic.{nat_list_cmp_total}
use Rattle.std.specs.FinMap.{entries, get}
use Rattle.std.specs.Option.{option_map}
use Rattle.std.specs.Prelude.{IfSome, IsSome, slice_get}
use Rattle.sqlite_rules.specs.Lists.{Has as IsIn}
use Rattle.office_days.specs.Limits.{IsDayNumber, IsDueNumber}
use Rattle.office_records.specs.Forms.{IsWellFormedConfirmation, IsWellFormedReceipt, IsWellFormedRecord, IsWellFormedReview, IsText}
use Rattle.office_records.specs.Lists.{numbered}
use Rattle.office_records.specs.declared.aggregation.Aggregation.{Aggregation}
use Rattle.office_records.specs.declared.class.Class.{Class}
use Rattle.office_records.specs.declared.event.Event.{Event}
use Rattle.office_records.specs.declared.head.Record.{Record}
use Rattle.office_records.specs.declared.schedule.Schedule.{Schedule}
use Rattle.office_records.specs.declared.status.Status.{Status}
use Rattle.office_records.proofs.Places.{numbered_within}
use Rattle.office_rules.specs.HoldForms.{IsWellFormedHold}
use Rattle.office_rules.specs.Holds.{HoldState, has_target}
use Rattle.office_rules.specs.HoldRows.{hold_row}
use Rattle.office_rules.specs.SoundHolds.{TargetsAreThere}
use Rattle.office_records.specs.declared.hold_row.HoldRow.{HoldRow}
use Rattle.office_records.specs.declared.target.Target.{Target}
use Rattle.office_records.specs.declared.target.Target.TheVariants as target
use Rattle.office_rules.specs.declared.entry.Entry.{Entry}
use Rattle.office_rules.specs.Rows.{record_row, record_rows, rows_of}
use Rattle.office_rules.specs.Sound.{IsSound}
use Rattle.office_rules.specs.State.{State}
use Rattle.office_rules.specs.declared.rows.RecordRow.{RecordRow}
use Rattle.office_rules.specs.declared.run.Run.{Run}
use Rattle.office_rules.proofs.SoundMaps.{entry_total}
use Rattle.office_store.specs.Stored.{IsAggregationPair, IsClassPair, IsEntryOfForm, IsEventPair, IsWellFormedHoldRow, IsWellFormedRecordRow, IsWellFormedTargetText, IsHoldPair, IsNumber, IsRecordPair, IsRunPair, IsSchedulePair, IsTargetPair}
use Rattle.office_store.proofs.RowsInOrder.{in_entries, in_numbered}
use Rattle.office_store.proofs.RepresentsWritten.{numbered_at, short_targets, there_is_hold}
use Rattle.office_store.proofs.TargetRows.{IsShortTarget}

module _ {A : Type 0} where
  each_some : (P : A → Type 0) (o : Option A) → ((a : A) → o ≡ Some a → P a) → IfSome o P
  each_some P None h = tt
  each_some P (Some a) h = h a refl

  mapped : {B : Type 0} (f : A → B) (P : A → Type 0) (Q : B → Type 0) → ((a : A) → P a → Q (f a)) → (o : Option A) → IfSome o P → IfSome (option_map f o) Q
  mapped f P Q each None h = tt
  mapped f P Q each (Some a) h = each a h

  -- a thing under its number
  number_of : (xs : List A) (e : ℕ × A) → (i : ℕ) × (e.0 ≡ suc (0 + i)) × (slice_get xs i ≡ Some e.1) → numbered xs e.0 ≡ Some e.1
  number_of xs e found = numbered_at xs e.0 found.0 e.1 found.1 found.2

-- the head and the status of a record's row
row_of : (heads : List Record) (statuses : List Status) (i : ℕ) (row : RecordRow) → slice_get (record_rows heads statuses) i ≡ Some row
    → (head : Record) × (status : Status) × (slice_get heads i ≡ Some head) × (record_row head status ≡ row)
row_of [] statuses i row e = absurd cc
row_of (h ∷ hs) [] i row e = absurd cc
row_of (h ∷ hs) (s ∷ ss) zero row e = (h, s, refl, cc)
row_of (h ∷ hs) (s ∷ ss) (suc i) row e = row_of hs ss i row e

well_formed_record_row : (head : Record) (status : Status) → IsWellFormedRecord head → IsNumber head.aggregation → IsWellFormedRecordRow (record_row head status)
well_formed_record_row head status formed few = record {
  ref_text = formed.ref_text;
  title = formed.title;
  originated = formed.originated;
  added = formed.added;
  aggregation = few;
  size = formed.length_few;
  digest = formed.digest;
  class = formed.class;
  schedule = formed.schedule;
  reviewed = mapped (λ review. review.day) IsWellFormedReview IsDayNumber (λ review h. h.day) head.review formed.review;
  reviewed_by = mapped (λ review. review.by) IsWellFormedReview IsText (λ review h. h.by) head.review formed.review;
  conf_due = mapped (λ confirmation. confirmation.due) IsWellFormedConfirmation IsDueNumber (λ confirmation h. h.due) head.confirmation formed.confirmation;
  conf_day = mapped (λ confirmation. confirmation.day) IsWellFormedConfirmation IsDayNumber (λ confirmation h. h.day) head.confirmation formed.confirmation;
  conf_by = mapped (λ confirmation. confirmation.by) IsWellFormedConfirmation IsText (λ confirmation h. h.by) head.confirmation formed.confirmation;
  receipt_day = mapped (λ receipt. receipt.day) IsWellFormedReceipt IsDayNumber (λ receipt h. h.day) head.receipt formed.receipt;
  receipt_by = mapped (λ receipt. receipt.by) IsWellFormedReceipt IsText (λ receipt h. h.by) head.receipt formed.receipt;
}

hold_in : (es : List (List ℕ × HoldState)) (e : List ℕ × HoldRow) → IsIn (map (λ f. (f.0, hold_row f.1)) es) e → (hold : HoldState) × IsIn es (e.0, hold) × (e.1 ≡ hold_row hold)
hold_in [] e h = absurd h
hold_in (f ∷ es) e (inl same) = let code : e.0 ≡ f.0 = ap (λ g. g.0) same in (f.1, inl (λ i. (code i, f.1)), ap (λ g. g.1) same)
hold_in (f ∷ es) e (inr later) = let found = hold_in es e later in (found.0, inr found.1, found.2)

well_formed_target : (hold : HoldState) (t : Target) (s : State) → IsSound s → IsWellFormedHold hold → TargetsAreThere s.office.tree.classes (length s.office.tree.aggregations) (length s.office.tree.records) hold → has_target hold t ≡ true → IsWellFormedTargetText t
well_formed_target hold (target.Class code) s sound formed there h = formed.classes code h
well_formed_target hold (target.Aggregation a) s sound formed there h = ((there.aggregation_targets a h).0, omega (arith, (there.aggregation_targets a h).1, sound.limits.tree_few.aggregations_few))
well_formed_target hold (target.Record r) s sound formed there h = ((there.record_targets r h).0, omega (arith, (there.record_targets r h).1, sound.limits.tree_few.records_few))

module _ (s : State) (sound : IsSound s) where
  pub well_formed_schedules : (e : List ℕ × Schedule) → IsIn (rows_of s).schedules e → IsSchedulePair e
  unfolding rows_of
  well_formed_schedules e h = sound.limits.tree_forms.schedules e.0 e.1 (in_entries nat_list_cmp_total s.office.tree.schedules e h)

  pub well_formed_classes : (e : List ℕ × Class) → IsIn (rows_of s).classes e → IsClassPair e
  unfolding rows_of
  well_formed_classes e h = sound.limits.tree_forms.classes e.0 e.1 (in_entries nat_list_cmp_total s.office.tree.classes e h)

  pub well_formed_aggregations : (e : ℕ × Aggregation) → IsIn (rows_of s).aggregations e → IsAggregationPair e
  unfolding rows_of
  well_formed_aggregations e h =
      let at : numbered s.office.tree.aggregations e.0 ≡ Some e.1 = number_of s.office.tree.aggregations e (in_numbered 0 s.office.tree.aggregations e h) in
      let within = numbered_within s.office.tree.aggregations e.0 e.1 at in
      let few : e.0 < 2 ^ 32 = omega (arith, within.1, sound.limits.tree_few.aggregations_few) in (
        (within.0, few),
        sound.limits.tree_forms.aggregations e.0 e.1 at,
        each_some IsNumber e.1.parent (λ p has. let below = sound.forest.below e.0 p e.1 at has in (below.0, omega (arith, few, below.1))),
      )

  pub well_formed_records : (e : ℕ × RecordRow) → IsIn (rows_of s).records e → IsRecordPair e
  unfolding rows_of
  well_formed_records e h =
      let found = in_numbered 0 (record_rows s.office.tree.records s.office.tree.statuses) e h in
      let of = row_of s.office.tree.records s.office.tree.statuses found.0 e.1 found.2 in
      let at : numbered s.office.tree.records e.0 ≡ Some of.0 = numbered_at s.office.tree.records e.0 found.0 of.0 found.1 of.2 in
      let within = numbered_within s.office.tree.records e.0 of.0 at in
      let few : IsNumber e.0 = (within.0, omega (arith, within.1, sound.limits.tree_few.records_few)) in
      let there = sound.names.of_tree.containers e.0 of.0 at in
      let aggregation : IsNumber of.0.aggregation = (there.0, omega (arith, there.1, sound.limits.tree_few.aggregations_few)) in
      (few, subst IsWellFormedRecordRow of.3 (well_formed_record_row of.0 of.1 (sound.limits.tree_forms.records e.0 of.0 at) aggregation))

  pub well_formed_events : (e : ℕ × Event) → IsIn (rows_of s).events e → IsEventPair e
  unfolding rows_of
  well_formed_events e h =
      let at = in_entries nat_cmp_total s.office.tree.events e h in
      let there = sound.events.of_records e.0 e.1 at in
      ((there.0, omega (arith, there.1, sound.limits.tree_few.records_few)), sound.limits.tree_forms.events e.0 e.1 at)

  pub well_formed_contents : (e : ℕ × List ℕ) → IsIn (rows_of s).contents e → IsNumber e.0
  unfolding rows_of
  well_formed_contents e h =
      let there : IsSome (get s.contents e.0) = subst IsSome (sym (in_entries nat_cmp_total s.contents e h)) refl in
      let of = (sound.contents e.0).0 there in
      let within = numbered_within s.office.tree.statuses e.0 of.0 of.1 in
      (within.0, omega (arith, within.1, sound.limits.statuses, sound.limits.tree_few.records_few))

  pub well_formed_holds : (e : List ℕ × HoldRow) → IsIn (rows_of s).holds e → IsHoldPair e
  unfolding rows_of
  well_formed_holds e h =
      let found = hold_in (entries s.office.holds) e h in
      let formed = sound.limits.hold_forms e.0 found.0 (in_entries nat_list_cmp_total s.office.holds (e.0, found.0) found.1) in
      (formed.0, subst IsWellFormedHoldRow (sym found.2) (record { reason = formed.1.reason; placed = formed.1.placed; placed_by = formed.1.by; lifted = formed.1.lifted }))

  pub well_formed_targets : (code : List ℕ) (t : Target) → (rows_of s).targets code t ≡ true → IsTargetPair (code, t)
  unfolding rows_of
  well_formed_targets code t h =
      let found = there_is_hold (get s.office.holds code) t h in
      let formed = sound.limits.hold_forms code found.0 found.1 in
      (formed.0, well_formed_target found.0 t s sound formed.1 (sound.names.of_holds code found.0 found.1) found.2)

  -- the number of a target has a text of its own
  pub short_in_rows : (code : List ℕ) (t : Target) → (rows_of s).targets code t ≡ true → IsShortTarget t
  unfolding rows_of
  short_in_rows = short_targets s sound

  pub well_formed_runs : (e : ℕ × Run) → IsIn (rows_of s).runs e → IsRunPair e
  unfolding rows_of
  well_formed_runs e h =
      let at : numbered s.office.runs e.0 ≡ Some e.1 = number_of s.office.runs e (in_numbered 0 s.office.runs e h) in
      let within = numbered_within s.office.runs e.0 e.1 at in
      ((within.0, omega (arith, within.1, sound.limits.runs_few)), sound.limits.run_forms e.0 e.1 at)

  -- and is under its own run and record
  pub own_entries : (e : (ℕ × ℕ) × Entry) → IsIn (rows_of s).entries_by e → e.0 ≡ (e.1.run, e.1.record_no)
  unfolding rows_of
  own_entries e h =
      let keyed = sound.entries.keyed e.0.0 e.0.1 e.1 (in_entries entry_total s.office.entries e h) in
      λ i. (sym keyed.0 i, sym keyed.1 i)

  pub well_formed_entries : (e : (ℕ × ℕ) × Entry) → IsIn (rows_of s).entries_by e → IsEntryOfForm e.1
  unfolding rows_of
  well_formed_entries e h =
      let at = in_entries entry_total s.office.entries e h in
      let keyed = sound.entries.keyed e.0.0 e.0.1 e.1 at in
      let named = sound.names.of_entries e.0.0 e.0.1 e.1 at in (
        (omega (arith, keyed.0, named.run_there.0), omega (arith, keyed.0, named.run_there.1, sound.limits.runs_few)),
        (omega (arith, keyed.1, named.record_there.0), omega (arith, keyed.1, named.record_there.1, sound.limits.tree_few.records_few)),
        sound.limits.entry_forms e.0.0 e.0.1 e.1 at,
      )

  pub well_formed_certificates : (e : ℕ × List ℕ) → IsIn (rows_of s).certificates e → IsNumber e.0
  unfolding rows_of
  well_formed_certificates e h =
      let there : IsSome (get s.office.certificates e.0) = subst IsSome (sym (in_entries nat_cmp_total s.office.certificates e h)) refl in
      let of = (sound.runs.certified e.0).0 there in
      let within = numbered_within s.office.runs e.0 of.0 of.1 in
      (within.0, omega (arith, within.1, sound.limits.runs_few))

  pub day_in_rows : IsDayNumber (rows_of s).day
  unfolding rows_of
  day_in_rows = sound.limits.day_form

module _ (s : State) where
  pub got_certificates : (e : ℕ × List ℕ) → IsIn (rows_of s).certificates e → get s.office.certificates e.0 ≡ Some e.1
  unfolding rows_of
  got_certificates e h = in_entries nat_cmp_total s.office.certificates e h
