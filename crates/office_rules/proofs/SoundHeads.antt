-- An act on a record's head, and a new own class, keep a state sound.
use Rattle.std.proofs.Common.{◌≡◌, ◌≢◌, ℕ, zero, suc, ◌≤ℤ◌, ℤ, List, [], ◌∷◌, length, Option, Some, None, refl, sym, ap, subst, ◌∙◌, cond, Bool, true, false, ◌⊎◌, inl, inr}
use Rattle.std.specs.Prelude.{IsSome, IfSome, int_le, not, ◌&&◌, slice_get}
use Rattle.std.specs.Int.Signed.{≤ℤ_refl}
use Rattle.std.specs.Option.{option_and_then, option_map}
use Rattle.office_days.specs.Limits.{IsDayNumber}
use Rattle.office_records.specs.Conditions.{first_of, conditions_of_set_record_schedule, conditions_of_confirm, conditions_of_review, conditions_of_receipt, has_other_action}
use Rattle.office_records.specs.Disposal.{is_disposal, is_sent, same_action}
use Rattle.office_records.specs.Effects.{with_head, reclassified, confirmed, receipted}
use Rattle.office_records.specs.Forms.{IsCode, IsText}
use Rattle.office_records.specs.Lists.{numbered, edited, edited_at, is_some_and, or_else}
use Rattle.office_records.specs.Sound.{NamesExist}
use Rattle.office_records.specs.Tree.{action_of, due_of, due_by, has_record, is_keep, schedule_of, start_in}
use Rattle.office_records.specs.declared.action.Action.{Action}
use Rattle.office_records.specs.declared.action.Action.TheVariants as action
use Rattle.office_records.specs.declared.aggregation.Aggregation.{Aggregation}
use Rattle.office_records.specs.declared.classified.Classified.{Classified}
use Rattle.office_records.specs.declared.classified.Classified.TheVariants as classified
use Rattle.office_records.specs.declared.head.Confirmation.{Confirmation}
use Rattle.office_records.specs.declared.head.Record.{Record}
use Rattle.office_records.specs.declared.schedule.Schedule.{Schedule}
use Rattle.office_records.specs.declared.status.Status.{Status}
use Rattle.office_records.specs.declared.status.Status.TheVariants.{Here, Sent, Received, Ended}
use Rattle.office_records.proofs.Accepting.{none_holds, not_false, neither}
use Rattle.office_records.proofs.Amending.{IsSound-set_record_schedule, IsSound-reclassify, IsSound-confirm, IsSound-review, IsSound-receipt}
use Rattle.office_records.proofs.DueNumbers.{due_of-number}
use Rattle.office_records.proofs.Forming.{IsWellFormed-set_record_schedule, IsWellFormed-reclassify, IsWellFormed-confirm, IsWellFormed-review, IsWellFormed-receipt}
use Rattle.office_records.proofs.Refs.{RefsDiffer-with_head, RefsDiffer-reclassify}
use Rattle.office_records.proofs.Places.{numbered_edited}
use Rattle.office_rules.specs.Conditions.{conditions_of_reclassifying, refusals_of_set_record_schedule, refusals_of_reclassify, refusals_of_confirm, refusals_of_review, refusals_of_receipt}
use Rattle.office_rules.specs.Effects.{after_set_record_schedule, after_reclassify, after_confirm, after_review, after_receipt}
use Rattle.office_rules.specs.Meanings.{IsAccepted}
use Rattle.office_rules.specs.Sound.{IsSound, AllNamesExist, ContentsAgree, DocumentsAgree, EntriesAgree, NoDayIsAfter}
use Rattle.office_rules.specs.State.{State, EntryMap, ByteMap, with_office}
use Rattle.office_rules.specs.declared.run.Run.{Run}
use Rattle.office_rules.proofs.Accepted.{tree_sound, dated_accepted, accepted_by_tree}
use Rattle.office_rules.proofs.SoundParts.{IsClosedBy, IsHeadBy, closed_by, heads_by, each_edited, as_many, no_fewer_edited, NamesDisposal, limits_after, names_after, days_after, events_later}

-- ---- a change of a head

-- a change that takes no confirmation and no receipt away, and confirms only transfer and destruction
record KeepsDocuments (change : Record → Record) : Type 0 where
  confirmed : (head : Record) → IsSome head.confirmation → IsSome (change head).confirmation
  disposal : (head : Record) → NamesDisposal head.confirmation → NamesDisposal (change head).confirmation
  receipt : (head : Record) → IsSome head.receipt → IsSome (change head).receipt

-- required documents: the change keeps them
documents_with_head : (s : State) (r : ℕ) (change : Record → Record) → IsSound s → KeepsDocuments change → DocumentsAgree (edited s.office.tree.records r change) s.office.tree.statuses s.office.entries
documents_with_head s r change sound keeps = record {
  confirmed = λ n head status e at away.
      let came = numbered_edited s.office.tree.records r change head n e in
      let old = sound.documents.confirmed n came.0 status came.1 at away in
      elim came.2 [ inl same ↦ subst (λ (k : Record). IsSome k.confirmation) (sym same) old | inr changed ↦ subst (λ (k : Record). IsSome k.confirmation) (sym changed.1) (keeps.confirmed came.0 old) ];
  disposal = λ n head e.
      let came = numbered_edited s.office.tree.records r change head n e in
      let old = sound.documents.disposal n came.0 came.1 in
      elim came.2 [ inl same ↦ subst (λ (k : Record). NamesDisposal k.confirmation) (sym same) old | inr changed ↦ subst (λ (k : Record). NamesDisposal k.confirmation) (sym changed.1) (keeps.disposal came.0 old) ];
  received = λ n head e at.
      let came = numbered_edited s.office.tree.records r change head n e in
      let old = sound.documents.received n came.0 came.1 at in
      elim came.2 [ inl same ↦ subst (λ (k : Record). IsSome k.receipt) (sym same) old | inr changed ↦ subst (λ (k : Record). IsSome k.receipt) (sym changed.1) (keeps.receipt came.0 old) ];
  transferred = λ run n entry head there is e.
      let came = numbered_edited s.office.tree.records r change head n e in
      let old = sound.documents.transferred run n entry came.0 there is came.1 in
      elim came.2 [ inl same ↦ subst (λ (k : Record). IsSome k.receipt) (sym same) old | inr changed ↦ subst (λ (k : Record). IsSome k.receipt) (sym changed.1) (keeps.receipt came.0 old) ];
}

-- names: those of the tree with the changed head are
names_with_head : (s : State) (r : ℕ) (change : Record → Record) → IsSound s → NamesExist s.office.tree.schedules s.office.tree.classes s.office.tree.aggregations (edited s.office.tree.records r change)
    → AllNamesExist (with_head s.office.tree r change) s.office.holds s.office.runs s.office.entries
names_with_head s r change sound names =
    let t = s.office.tree in
    names_after s (with_head t r change) sound names
    (record { schedules = λ c there. there; classes = λ c there. there; aggregations = as_many (length t.aggregations); records = no_fewer_edited t.records r change })

-- days: the change keeps those of a head by the day
days_with_head : (s : State) (day : ℤ) (r : ℕ) (change : Record → Record) → IsSound s → s.office.day ≤ℤ day → ((head : Record) → IsHeadBy day head → IsHeadBy day (change head))
    → NoDayIsAfter s.office.tree.aggregations (edited s.office.tree.records r change) s.office.holds s.office.runs day
days_with_head s day r change sound up by_day =
    let t = s.office.tree in
    days_after s day (with_head t r change) sound up (closed_by s day sound up) (each_edited (IsHeadBy day) t.records r change (heads_by s day sound up) by_day)

-- ---- an own schedule

pub sound_set_record_schedule : (s : State) (day : ℤ) (r : ℕ) (schedule : Option (List ℕ)) → IsSound s → IsDayNumber day → IfSome schedule IsCode → IsAccepted (refusals_of_set_record_schedule s.office day r schedule) → IsSound (with_office s (after_set_record_schedule s.office day r schedule))
sound_set_record_schedule s day r schedule sound day_well_formed schedule_well_formed accepted =
    let t = s.office.tree in
    let no = dated_accepted s.office day (conditions_of_set_record_schedule t r schedule) accepted in
    let change : Record → Record = λ head. record head { schedule = schedule } in
    let of_tree = IsSound-set_record_schedule t r schedule (tree_sound s sound) no.1 in
    record {
      limits = limits_after s day (with_head t r change) sound of_tree.limits of_tree.statuses (IsWellFormed-set_record_schedule t r schedule sound.limits.tree_forms schedule_well_formed) day_well_formed;
      forest = sound.forest;
      names = names_with_head s r change sound of_tree.names;
      closed = sound.closed;
      contents = sound.contents;
      documents = documents_with_head s r change sound (record { confirmed = λ head there. there; disposal = λ head old. old; receipt = λ head there. there });
      entries = sound.entries;
      runs = sound.runs;
      days = days_with_head s day r change sound no.0 (λ head old. record { added = old.added; reviewed = old.reviewed; confirmed = old.confirmed; receipted = old.receipted });
      events = events_later s day sound no.0 (no_fewer_edited t.records r change);
      refs = RefsDiffer-with_head t r change (λ head. refl) sound.refs;
    }

-- ---- an own class

pub sound_reclassify : (s : State) (day : ℤ) (what : Classified) (class : Option (List ℕ)) → IsSound s → IsDayNumber day → IfSome class IsCode → IsAccepted (refusals_of_reclassify s.office day what class) → IsSound (with_office s (after_reclassify s.office day what class))
sound_reclassify s day (classified.Aggregation a) class sound day_well_formed class_well_formed accepted =
    let t = s.office.tree in
    let what = classified.Aggregation a in
    let up = (dated_accepted s.office day (conditions_of_reclassifying s.office what class) accepted).0 in
    let change : Aggregation → Aggregation = λ it. record it { class = class } in
    let new = reclassified t what class in
    let of_tree = IsSound-reclassify t what class (tree_sound s sound) (accepted_by_tree s.office day what class accepted) in
    record {
      limits = limits_after s day new sound of_tree.limits of_tree.statuses (IsWellFormed-reclassify t what class sound.limits.tree_forms class_well_formed) day_well_formed;
      forest = of_tree.forest;
      names = names_after s new sound of_tree.names (record { schedules = λ c there. there; classes = λ c there. there; aggregations = no_fewer_edited t.aggregations a change; records = as_many (length t.records) });
      closed = of_tree.closed;
      contents = sound.contents;
      documents = sound.documents;
      entries = sound.entries;
      runs = sound.runs;
      days = days_after s day new sound up (each_edited (IsClosedBy day) t.aggregations a change (closed_by s day sound up) (λ it old. old)) (heads_by s day sound up);
      events = events_later s day sound up (as_many (length t.records));
      refs = RefsDiffer-reclassify t what class sound.refs;
    }
sound_reclassify s day (classified.Record r) class sound day_well_formed class_well_formed accepted =
    let t = s.office.tree in
    let what = classified.Record r in
    let up = (dated_accepted s.office day (conditions_of_reclassifying s.office what class) accepted).0 in
    let change : Record → Record = λ head. record head { class = class } in
    let of_tree = IsSound-reclassify t what class (tree_sound s sound) (accepted_by_tree s.office day what class accepted) in
    record {
      limits = limits_after s day (with_head t r change) sound of_tree.limits of_tree.statuses (IsWellFormed-reclassify t what class sound.limits.tree_forms class_well_formed) day_well_formed;
      forest = sound.forest;
      names = names_with_head s r change sound of_tree.names;
      closed = sound.closed;
      contents = sound.contents;
      documents = documents_with_head s r change sound (record { confirmed = λ head there. there; disposal = λ head old. old; receipt = λ head there. there });
      entries = sound.entries;
      runs = sound.runs;
      days = days_with_head s day r change sound up (λ head old. record { added = old.added; reviewed = old.reviewed; confirmed = old.confirmed; receipted = old.receipted });
      events = events_later s day sound up (no_fewer_edited t.records r change);
      refs = RefsDiffer-reclassify t what class sound.refs;
    }

-- ---- a confirmation

not_other : (here test : Bool) → here ≡ true → (here && not test) ≡ false → test ≡ true
not_other true test there e = not_false test e
not_other false test there e = absurd cc

held_some : {A : Type 0} (o : Option A) (test : A → Bool) → is_some_and o test ≡ true → IsSome o
held_some None test e = absurd cc
held_some (Some x) test e = refl

-- the named action is the plan's, which is not to keep, and not to review
named_disposal : (named plan : Action) → is_keep plan ≡ false → same_action named plan ≡ true → same_action named action.Review ≡ false → is_disposal named ≡ true
named_disposal action.Transfer plan due same other = refl
named_disposal action.Destroy plan due same other = refl
named_disposal action.Review plan due same other = absurd cc
named_disposal action.Keep action.Keep due same other = absurd cc
named_disposal action.Keep action.Review due same other = absurd cc
named_disposal action.Keep action.Transfer due same other = absurd cc
named_disposal action.Keep action.Destroy due same other = absurd cc

not_kept : {A : Type 0} (keep : Bool) (o : Option A) → IsSome (cond keep None o) → keep ≡ false
not_kept true o there = absurd cc
not_kept false o there = refl

due_not_kept : (schedule : Schedule) (start : Option ℤ) → IsSome (due_by schedule start) → is_keep schedule.action ≡ false
unfolding due_by
due_not_kept schedule start there = not_kept (is_keep schedule.action) _ there

disposal_of : (o : Option Schedule) (start : Schedule → Option ℤ) (named : Action) → IsSome (option_and_then (λ schedule. due_by schedule (start schedule)) o) → is_some_and (option_map (λ (schedule : Schedule). schedule.action) o) (same_action named) ≡ true → same_action named action.Review ≡ false → is_disposal named ≡ true
disposal_of None start named due same other = absurd cc
disposal_of (Some schedule) start named due same other = named_disposal named schedule.action (due_not_kept schedule (start schedule) due) same other

-- what is confirmed for a due day
abbrev confirmation_for : ℤ → Action → List ℕ → Option ℤ → Option Confirmation
confirmation_for day named by due = option_map (λ due. record { action = named; due = due; day = day; by = by }) due

confirms : (day : ℤ) (named : Action) (by : List ℕ) (due : Option ℤ) → IsSome due → IsSome (confirmation_for day named by due)
confirms day named by None there = absurd cc
confirms day named by (Some due) there = refl

confirms_disposal : (day : ℤ) (named : Action) (by : List ℕ) (due : Option ℤ) → is_disposal named ≡ true → NamesDisposal (confirmation_for day named by due)
confirms_disposal day named by None is = tt
confirms_disposal day named by (Some due) is = is

confirms_by : (day : ℤ) (named : Action) (by : List ℕ) (due : Option ℤ) → IfSome (confirmation_for day named by due) (λ confirmation. confirmation.day ≤ℤ day)
confirms_by day named by None = tt
confirms_by day named by (Some due) = ≤ℤ_refl day

-- required documents: the confirmation is there, as the record is due, and names its plan's action, which is a disposal
confirm_documents : (s : State) (day : ℤ) (r : ℕ) (named : Action) (by : List ℕ) → IsSound s → first_of (conditions_of_confirm s.office.tree day r named) ≡ None
    → DocumentsAgree (confirmed s.office.tree day r named by).records s.office.tree.statuses s.office.entries
confirm_documents s day r named by sound accepted =
    let t = s.office.tree in
    let none = none_holds (conditions_of_confirm t day r named) accepted in
    let there = not_false (has_record t r) none.0 in
    let is_due = held_some (due_of t r) _ (not_other (has_record t r) (is_some_and (due_of t r) (λ due. int_le due day)) there none.1.1.1.0) in
    let actions = neither (has_other_action t r named) (same_action named action.Review) none.1.1.1.1.0 in
    let same = not_other (has_record t r) (is_some_and (action_of t r) (same_action named)) there actions.0 in
    let disposal = disposal_of (schedule_of t r) (λ schedule. start_in t.aggregations t.records t.events schedule r) named is_due same actions.1 in
    documents_with_head s r (λ head. record head { confirmation = confirmation_for day named by (due_of t r) }) sound
    (record { confirmed = λ head old. confirms day named by (due_of t r) is_due; disposal = λ head old. confirms_disposal day named by (due_of t r) disposal; receipt = λ head receipt. receipt })

pub sound_confirm : (s : State) (day : ℤ) (r : ℕ) (named : Action) (by : List ℕ) → IsSound s → IsDayNumber day → IsText by → IsAccepted (refusals_of_confirm s.office day r named) → IsSound (with_office s (after_confirm s.office day r named by))
sound_confirm s day r named by sound day_well_formed by_well_formed accepted =
    let t = s.office.tree in
    let no = dated_accepted s.office day (conditions_of_confirm t day r named) accepted in
    let change : Record → Record = λ head. record head { confirmation = confirmation_for day named by (due_of t r) } in
    let of_tree = IsSound-confirm t day r named by (tree_sound s sound) no.1 in
    record {
      limits = limits_after s day (with_head t r change) sound of_tree.limits of_tree.statuses (IsWellFormed-confirm t day r named by sound.limits.tree_forms day_well_formed by_well_formed (due_of-number t r sound.limits.tree_forms)) day_well_formed;
      forest = sound.forest;
      names = names_with_head s r change sound of_tree.names;
      closed = sound.closed;
      contents = sound.contents;
      documents = confirm_documents s day r named by sound no.1;
      entries = sound.entries;
      runs = sound.runs;
      days = days_with_head s day r change sound no.0 (λ head old. record { added = old.added; reviewed = old.reviewed; confirmed = confirms_by day named by (due_of t r); receipted = old.receipted });
      events = events_later s day sound no.0 (no_fewer_edited t.records r change);
      refs = RefsDiffer-with_head t r change (λ head. refl) sound.refs;
    }

-- ---- a review

pub sound_review : (s : State) (day : ℤ) (r : ℕ) (schedule : Option (List ℕ)) (by : List ℕ) → IsSound s → IsDayNumber day → IfSome schedule IsCode → IsText by → IsAccepted (refusals_of_review s.office day r schedule) → IsSound (with_office s (after_review s.office day r schedule by))
sound_review s day r schedule by sound day_well_formed schedule_well_formed by_well_formed accepted =
    let t = s.office.tree in
    let no = dated_accepted s.office day (conditions_of_review t day r schedule) accepted in
    let change : Record → Record = λ head. record head { review = Some (record { day = day; by = by }); schedule = or_else schedule head.schedule } in
    let of_tree = IsSound-review t day r schedule by (tree_sound s sound) no.1 in
    record {
      limits = limits_after s day (with_head t r change) sound of_tree.limits of_tree.statuses (IsWellFormed-review t day r schedule by sound.limits.tree_forms day_well_formed schedule_well_formed by_well_formed) day_well_formed;
      forest = sound.forest;
      names = names_with_head s r change sound of_tree.names;
      closed = sound.closed;
      contents = sound.contents;
      documents = documents_with_head s r change sound (record { confirmed = λ head there. there; disposal = λ head old. old; receipt = λ head there. there });
      entries = sound.entries;
      runs = sound.runs;
      days = days_with_head s day r change sound no.0 (λ head old. record { added = old.added; reviewed = ≤ℤ_refl day; confirmed = old.confirmed; receipted = old.receipted });
      events = events_later s day sound no.0 (no_fewer_edited t.records r change);
      refs = RefsDiffer-with_head t r change (λ head. refl) sound.refs;
    }

-- ---- a receipt

edited_reads_at : {A : Type 0} (xs : List A) (i : ℕ) (f : A → A) (y : A) (n : ℕ) → slice_get xs n ≡ Some y → ((n ≡ i) × (slice_get (edited_at xs i f) n ≡ Some (f y))) ⊎ (slice_get (edited_at xs i f) n ≡ Some y)
edited_reads_at [] i f y n e = absurd cc
edited_reads_at (x ∷ xs) zero f y zero e = let same : x ≡ y = cc in inl (refl, ap (λ z. Some (f z)) same)
edited_reads_at (x ∷ xs) zero f y (suc n) e = inr e
edited_reads_at (x ∷ xs) (suc i) f y zero e = inr e
edited_reads_at (x ∷ xs) (suc i) f y (suc n) e = elim (edited_reads_at xs i f y n e) [ inl here ↦ inl (ap suc here.0, here.1) | inr kept ↦ inr kept ]

-- what was there is there, changed and then at the change's place, or unchanged
edited_reads : {A : Type 0} (xs : List A) (a : ℕ) (f : A → A) (y : A) (n : ℕ) → numbered xs n ≡ Some y → ((n ≡ a) × (numbered (edited xs a f) n ≡ Some (f y))) ⊎ (numbered (edited xs a f) n ≡ Some y)
edited_reads xs zero f y n e = inr e
edited_reads xs (suc a) f y zero e = absurd cc
edited_reads xs (suc a) f y (suc n) e = elim (edited_reads_at xs a f y n e) [ inl here ↦ inl (ap suc here.0, here.1) | inr kept ↦ inr kept ]

edited_here_at : {A : Type 0} (xs : List A) (i : ℕ) (f : A → A) (y : A) → slice_get (edited_at xs i f) i ≡ Some y → (x : A) × (y ≡ f x)
edited_here_at [] i f y e = absurd cc
edited_here_at (x ∷ xs) zero f y e = (x, cc)
edited_here_at (x ∷ xs) (suc i) f y e = edited_here_at xs i f y e

-- what is at the change's place is changed
edited_here : {A : Type 0} (xs : List A) (a : ℕ) (f : A → A) (y : A) → numbered (edited xs a f) a ≡ Some y → (x : A) × (y ≡ f x)
edited_here xs zero f y e = absurd cc
edited_here xs (suc a) f y e = edited_here_at xs a f y e

sent_of : (status : Status) → not (is_sent status) ≡ false → status ≡ Sent
sent_of Here e = absurd cc
sent_of Sent e = refl
sent_of Received e = absurd cc
sent_of Ended e = absurd cc

-- if the record is there it is sent
abbrev IsSentAt : List Status → ℕ → Type 0
IsSentAt statuses r = (status : Status) → numbered statuses r ≡ Some status → status ≡ Sent

sent_at : (statuses : List Status) (r : ℕ) → is_some_and (numbered statuses r) (λ status. not (is_sent status)) ≡ false → IsSentAt statuses r
sent_at statuses r e status is = sent_of status (sym (ap (λ (o : Option Status). is_some_and o (λ it. not (is_sent it))) is) ∙ e)

module _ (statuses : List Status) (r : ℕ) (sent : IsSentAt statuses r) where
  abbrev received_now : List Status
  received_now = edited statuses r (λ _. Received)

  not_ended : (n : ℕ) (status : Status) → n ≡ r → numbered statuses n ≡ Some status → status ≢ Ended
  not_ended n status here is ended = let same : status ≡ Sent = sent status (ap (numbered statuses) (sym here) ∙ is) in absurd cc

  contents_received : (contents : ByteMap) → ContentsAgree statuses contents → ContentsAgree received_now contents
  contents_received contents represent n = (
    λ some. let old = (represent n).0 some in elim (edited_reads statuses r (λ _. Received) old.0 n old.1) [ inl here ↦ (Received, here.1, λ e. absurd cc) | inr kept ↦ (old.0, kept, old.2) ],
    λ is.
        let came = numbered_edited statuses r (λ _. Received) is.0 n is.1 in
        (represent n).1 (came.0, came.1, elim came.2 [ inl same ↦ λ e. is.2 (same ∙ e) | inr changed ↦ not_ended n came.0 changed.0 came.1 ]),
  )

  entries_received : (runs : List Run) (entries : EntryMap) → EntriesAgree statuses runs entries → EntriesAgree received_now runs entries
  entries_received runs entries represent = record {
    keyed = represent.keyed;
    ended = λ n is.
        let came = numbered_edited statuses r (λ _. Received) Ended n is in
        elim came.2 [ inl same ↦ represent.ended n (came.1 ∙ ap Some (sym same)) | inr changed ↦ let other : Ended ≡ Received = changed.1 in absurd cc ];
    once = represent.once;
    no_other = λ run n e there ending.
        let old = represent.no_other run n e there ending in
        elim (edited_reads statuses r (λ _. Received) Ended n old) [ inl here ↦ absurd (not_ended n Ended here.0 old refl) | inr kept ↦ kept ];
    holds = represent.holds;
    passed = represent.passed;
  }

  documents_received : (records : List Record) (entries : EntryMap) (change : Record → Record) → DocumentsAgree (edited records r change) statuses entries → ((head : Record) → IsSome (change head).receipt) → DocumentsAgree (edited records r change) received_now entries
  documents_received records entries change documents receipted = record {
    confirmed = λ n head status e at away.
        let came = numbered_edited statuses r (λ _. Received) status n at in
        documents.confirmed n head came.0 e came.1 (elim came.2 [
          | inl same ↦ λ here. away (same ∙ here)
          | inr changed ↦ λ here. let same : came.0 ≡ Sent = sent came.0 (ap (numbered statuses) (sym changed.0) ∙ came.1) in absurd cc
        ]);
    disposal = documents.disposal;
    received = λ n head e at.
        let came = numbered_edited statuses r (λ _. Received) Received n at in
        elim came.2 [
          | inl same ↦ documents.received n head e (came.1 ∙ ap Some (sym same))
          | inr changed ↦
              let x = edited_here records r change head (ap (numbered (edited records r change)) (sym changed.0) ∙ e) in
              subst (λ (k : Record). IsSome k.receipt) (sym x.1) (receipted x.0)
        ];
    transferred = documents.transferred;
  }

pub sound_receipt : (s : State) (day : ℤ) (r : ℕ) (digest by : List ℕ) → IsSound s → IsDayNumber day → IsText by → IsAccepted (refusals_of_receipt s.office day r digest) → IsSound (with_office s (after_receipt s.office day r by))
sound_receipt s day r digest by sound day_well_formed by_well_formed accepted =
    let t = s.office.tree in
    let no = dated_accepted s.office day (conditions_of_receipt t r digest) accepted in
    let none = none_holds (conditions_of_receipt t r digest) no.1 in
    let sent = sent_at t.statuses r none.1.1.0 in
    let change : Record → Record = λ head. record head { receipt = Some (record { day = day; by = by }) } in
    let new = receipted t day r by in
    let of_tree = IsSound-receipt t day r digest by (tree_sound s sound) no.1 in
    record {
      limits = limits_after s day new sound of_tree.limits of_tree.statuses (IsWellFormed-receipt t day r by sound.limits.tree_forms day_well_formed by_well_formed) day_well_formed;
      forest = sound.forest;
      names = names_after s new sound of_tree.names (record { schedules = λ c there. there; classes = λ c there. there; aggregations = as_many (length t.aggregations); records = no_fewer_edited t.records r change });
      closed = sound.closed;
      contents = contents_received t.statuses r sent s.contents sound.contents;
      documents = documents_received t.statuses r sent t.records s.office.entries change
          (documents_with_head s r change sound (record { confirmed = λ head there. there; disposal = λ head old. old; receipt = λ head there. refl })) (λ head. refl);
      entries = entries_received t.statuses r sent s.office.runs s.office.entries sound.entries;
      runs = sound.runs;
      days = days_with_head s day r change sound no.0 (λ head old. record { added = old.added; reviewed = old.reviewed; confirmed = old.confirmed; receipted = ≤ℤ_refl day });
      events = events_later s day sound no.0 (no_fewer_edited t.records r change);
      refs = RefsDiffer-with_head t r change (λ head. refl) sound.refs;
    }
