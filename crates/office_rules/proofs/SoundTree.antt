-- An act on aggregations, and a new record, keep a state sound.
use Rattle.std.proofs.Common.{◌≡◌, ◌≢◌, ℕ, zero, suc, ◌+◌, ◌≤◌, ℤ, List, [], ◌∷◌, ◌++◌, length, Option, Some, None, refl, sym, ap, subst, ◌∙◌, cond, Bool, true, false, inl, inr, arith}
use Rattle.std.specs.Prelude.{IsSome, IfSome, slice_get}
use Rattle.std.specs.Cmp.{Equal-is, eq_by_cmp_equiv, nat_cmp_total}
use Rattle.std.specs.FinMap.{get, insert, get-insert, nat_cmp-IsAntisymmetric}
use Rattle.std.specs.Int.Signed.{≤ℤ_refl}
use Rattle.std.specs.Ordering.{eq_by_cmp, nat_cmp}
use Rattle.office_days.specs.Limits.{IsDayNumber}
use Rattle.office_records.specs.Conditions.{conditions_of_add_aggregation, conditions_of_close_aggregation, conditions_of_add_record}
use Rattle.office_records.specs.Effects.{added_aggregation, closed_aggregation, added_record}
use Rattle.office_records.specs.Forms.{IsCode, IsText, IsWellFormedRecord}
use Rattle.office_records.specs.Lists.{numbered}
use Rattle.office_records.specs.declared.aggregation.Aggregation.{Aggregation}
use Rattle.office_records.specs.declared.head.Record.{Record}
use Rattle.office_records.specs.declared.status.Status.{Status}
use Rattle.office_records.specs.declared.status.Status.TheVariants.{Here, Received, Ended}
use Rattle.office_records.proofs.Forming.{IsWellFormed-add_aggregation, IsWellFormed-close_aggregation, IsWellFormed-add_record}
use Rattle.office_records.proofs.Keeping.{IsSound-add_aggregation, IsSound-close_aggregation, IsSound-add_record}
use Rattle.office_records.proofs.Refs.{RefsDiffer-add_aggregation, RefsDiffer-close_aggregation, RefsDiffer-add_record}
use Rattle.office_records.proofs.Places.{numbered_push, numbered_within}
use Rattle.office_rules.specs.Conditions.{refusals_of_add_aggregation, refusals_of_close_aggregation, refusals_of_add_record}
use Rattle.office_rules.specs.Effects.{after_add_aggregation, after_close_aggregation, new_head, with_new_record}
use Rattle.office_rules.specs.Meanings.{IsAccepted, IsWellFormedNewRecord}
use Rattle.office_rules.specs.NewRecords.{NewRecord}
use Rattle.office_rules.specs.Sound.{IsSound, ContentsAgree, DocumentsAgree, EntriesAgree}
use Rattle.office_rules.specs.State.{State, EntryMap, ByteMap, with_office}
use Rattle.office_rules.specs.declared.run.Run.{Run}
use Rattle.office_rules.specs.declared.entry.Entry.{Entry}
use Rattle.office_rules.proofs.Digests.{IsDigest-sha256}
use Rattle.office_rules.proofs.Accepted.{tree_sound, dated_accepted}
use Rattle.office_rules.proofs.SoundParts.{IsClosedBy, IsHeadBy, closed_by, heads_by, each_push, each_edited, as_many, more_pushed, no_fewer_edited, NamesDisposal, limits_after, names_after, days_after, events_later}

-- ---- aggregations

pub sound_add_aggregation : (s : State) (day : ℤ) (ref_text title : List ℕ) (parent : Option ℕ) (class : Option (List ℕ)) → IsSound s → IsDayNumber day → IsText ref_text → IsText title → IfSome class IsCode → IsAccepted (refusals_of_add_aggregation s.office day ref_text parent class) → IsSound (with_office s (after_add_aggregation s.office day ref_text title parent class))
sound_add_aggregation s day ref_text title parent class sound day_well_formed ref_well_formed title_well_formed class_well_formed accepted =
    let t = s.office.tree in
    let no = dated_accepted s.office day (conditions_of_add_aggregation t ref_text parent class) accepted in
    let it : Aggregation = record { ref_text = ref_text; title = title; parent = parent; class = class; closed = None } in
    let new = added_aggregation t ref_text title parent class in
    let of_tree = IsSound-add_aggregation t ref_text title parent class (tree_sound s sound) no.1 in
    record {
      limits = limits_after s day new sound of_tree.limits of_tree.statuses (IsWellFormed-add_aggregation t ref_text title parent class sound.limits.tree_forms ref_well_formed title_well_formed class_well_formed) day_well_formed;
      forest = of_tree.forest;
      names = names_after s new sound of_tree.names (record { schedules = λ c there. there; classes = λ c there. there; aggregations = more_pushed t.aggregations it; records = as_many (length t.records) });
      closed = of_tree.closed;
      contents = sound.contents;
      documents = sound.documents;
      entries = sound.entries;
      runs = sound.runs;
      days = days_after s day new sound no.0 (each_push (IsClosedBy day) t.aggregations it (closed_by s day sound no.0) tt) (heads_by s day sound no.0);
      events = events_later s day sound no.0 (as_many (length t.records));
      refs = RefsDiffer-add_aggregation t ref_text title parent class sound.refs no.1;
    }

pub sound_close_aggregation : (s : State) (day : ℤ) (a : ℕ) → IsSound s → IsDayNumber day → IsAccepted (refusals_of_close_aggregation s.office day a) → IsSound (with_office s (after_close_aggregation s.office day a))
sound_close_aggregation s day a sound day_well_formed accepted =
    let t = s.office.tree in
    let no = dated_accepted s.office day (conditions_of_close_aggregation t a) accepted in
    let close : Aggregation → Aggregation = λ it. record it { closed = Some day } in
    let new = closed_aggregation t a day in
    let of_tree = IsSound-close_aggregation t a day (tree_sound s sound) no.1 in
    record {
      limits = limits_after s day new sound of_tree.limits of_tree.statuses (IsWellFormed-close_aggregation t a day sound.limits.tree_forms day_well_formed) day_well_formed;
      forest = of_tree.forest;
      names = names_after s new sound of_tree.names (record { schedules = λ c there. there; classes = λ c there. there; aggregations = no_fewer_edited t.aggregations a close; records = as_many (length t.records) });
      closed = of_tree.closed;
      contents = sound.contents;
      documents = sound.documents;
      entries = sound.entries;
      runs = sound.runs;
      days = days_after s day new sound no.0 (each_edited (IsClosedBy day) t.aggregations a close (closed_by s day sound no.0) (λ it old. ≤ℤ_refl day)) (heads_by s day sound no.0);
      events = events_later s day sound no.0 (as_many (length t.records));
      refs = RefsDiffer-close_aggregation t a day sound.refs;
    }

-- ---- a new record

head_well_formed : (day : ℤ) (new : NewRecord) → IsDayNumber day → IsWellFormedNewRecord new → IsWellFormedRecord (new_head day new)
head_well_formed day new day_well_formed formed = record {
  ref_text = formed.ref_text;
  title = formed.title;
  originated = formed.originated;
  added = day_well_formed;
  class = formed.class;
  schedule = formed.schedule;
  length_few = formed.content_few;
  digest = IsDigest-sha256 new.content;
  review = tt;
  confirmation = tt;
  receipt = tt;
}

slice_get_pushed : {A : Type 0} (xs : List A) (x y : A) (i : ℕ) → slice_get xs i ≡ Some y → slice_get (xs ++ x ∷ []) i ≡ Some y
slice_get_pushed [] x y i e = absurd cc
slice_get_pushed (z ∷ zs) x y zero e = e
slice_get_pushed (z ∷ zs) x y (suc i) e = slice_get_pushed zs x y i e

-- what was there is there still, and the new one has the next number
numbered_pushed : {A : Type 0} (xs : List A) (x y : A) (n : ℕ) → numbered xs n ≡ Some y → numbered (xs ++ x ∷ []) n ≡ Some y
numbered_pushed xs x y zero e = absurd cc
numbered_pushed xs x y (suc n) e = slice_get_pushed xs x y n e

last_pushed_at : {A : Type 0} (xs : List A) (x : A) → slice_get (xs ++ x ∷ []) (length xs) ≡ Some x
last_pushed_at [] x = refl
last_pushed_at (z ∷ zs) x = last_pushed_at zs x

last_pushed : {A : Type 0} (xs : List A) (x : A) (n : ℕ) → n ≡ length xs → numbered (xs ++ x ∷ []) (suc n) ≡ Some x
last_pushed xs x n e = ap (slice_get (xs ++ x ∷ [])) e ∙ last_pushed_at xs x

some_here : {V : Type 0} (b : Bool) (v : V) (o : Option V) → b ≡ true → IsSome (cond b (Some v) o)
some_here true v o e = refl
some_here false v o e = absurd cc

some_still : {V : Type 0} (b : Bool) (v : V) (o : Option V) → IsSome o → IsSome (cond b (Some v) o)
some_still true v o h = refl
some_still false v o h = h

module _ (statuses : List Status) (count : ℕ) (few : length statuses ≡ count) where
  abbrev with_new : List Status
  with_new = statuses ++ Here ∷ []

  abbrev HasStatus : List Status → ℕ → Type 0
  HasStatus them r = (status : Status) × (numbered them r ≡ Some status) × (status ≢ Ended)

  new_is_here : (r : ℕ) (b : Bool) (v : List ℕ) (old : Option (List ℕ)) → eq_by_cmp nat_cmp r (suc count) ≡ b → (IsSome old → HasStatus statuses r) → IsSome (cond b (Some v) old) → HasStatus with_new r
  new_is_here r true v old tie had some =
      let same : r ≡ suc count = nat_cmp-IsAntisymmetric r (suc count) ((Equal-is (nat_cmp r (suc count))).0 tie) in
      (Here, ap (numbered with_new) same ∙ last_pushed statuses Here count (sym few), λ e. absurd cc)
  new_is_here r false v old tie had some = let before = had some in (before.0, numbered_pushed statuses Here before.0 r before.1, before.2)

  contents_pushed : (contents : ByteMap) (content : List ℕ) → ContentsAgree statuses contents → ContentsAgree with_new (insert contents (suc count) content)
  contents_pushed contents content represent r =
      let found : get (insert contents (suc count) content) r ≡ cond (eq_by_cmp nat_cmp r (suc count)) (Some content) (get contents r) = get-insert nat_cmp_total contents (suc count) content r in (
        λ some. new_is_here r (eq_by_cmp nat_cmp r (suc count)) content (get contents r) refl (represent r).0 (subst (λ (o : Option (List ℕ)). IsSome o) found some),
        λ is. subst (λ (o : Option (List ℕ)). IsSome o) (sym found) (elim (numbered_push statuses Here is.0 r is.1) [
          | inl old ↦ some_still (eq_by_cmp nat_cmp r (suc count)) content (get contents r) ((represent r).1 (is.0, old, is.2))
          | inr new ↦
              let same : r ≡ suc count = omega (arith, new.0, few) in
              some_here (eq_by_cmp nat_cmp r (suc count)) content (get contents r) (ap (λ n. eq_by_cmp nat_cmp n (suc count)) same ∙ (eq_by_cmp_equiv nat_cmp_total).refl (suc count))
        ]),
      )

  entries_pushed : (runs : List Run) (entries : EntryMap) → EntriesAgree statuses runs entries → EntriesAgree with_new runs entries
  entries_pushed runs entries represent = record {
    keyed = represent.keyed;
    ended = λ r is. elim (numbered_push statuses Here Ended r is) [ inl old ↦ represent.ended r old | inr new ↦ let other : Here ≡ Ended = new.1 in absurd cc ];
    once = represent.once;
    no_other = λ run r e there ending. numbered_pushed statuses Here Ended r (represent.no_other run r e there ending);
    holds = represent.holds;
    passed = represent.passed;
  }

  -- a status of a new record's number is the new one
  here_at : (r : ℕ) (status : Status) → r ≡ count + 1 → numbered with_new r ≡ Some status → status ≡ Here
  here_at r status is e = elim (numbered_push statuses Here status r e) [
    | inl old ↦ absurd (omega (arith, is, few, (numbered_within statuses r status old).1))
    | inr new ↦ sym new.1
  ]

  old_at : (r : ℕ) (status : Status) → r ≤ count → numbered with_new r ≡ Some status → numbered statuses r ≡ Some status
  old_at r status low e = elim (numbered_push statuses Here status r e) [ inl old ↦ old | inr new ↦ absurd (omega (arith, new.0, few, low)) ]

documents_pushed : (records : List Record) (statuses : List Status) (entries : EntryMap) (head : Record) → length statuses ≡ length records → NamesDisposal head.confirmation → DocumentsAgree records statuses entries
    → ((run r : ℕ) (e : Entry) → get entries (run, r) ≡ Some e → r ≤ length records) → DocumentsAgree (records ++ head ∷ []) (statuses ++ Here ∷ []) entries
documents_pushed records statuses entries new few fresh documents within = record {
  confirmed = λ r head status e at away. elim (numbered_push records new head r e) [
    | inl old ↦ documents.confirmed r head status old (old_at statuses (length records) few r status (numbered_within records r head old).1 at) away
    | inr last ↦ absurd (away (here_at statuses (length records) few r status last.0 at))
  ];
  disposal = λ r head e. elim (numbered_push records new head r e) [
    | inl old ↦ documents.disposal r head old
    | inr last ↦ subst (λ (k : Record). NamesDisposal k.confirmation) last.1 fresh
  ];
  received = λ r head e at. elim (numbered_push records new head r e) [
    | inl old ↦ documents.received r head old (old_at statuses (length records) few r Received (numbered_within records r head old).1 at)
    | inr last ↦ let other : Received ≡ Here = here_at statuses (length records) few r Received last.0 at in absurd cc
  ];
  transferred = λ run r entry head there is e. elim (numbered_push records new head r e) [
    | inl old ↦ documents.transferred run r entry head there is old
    | inr last ↦ absurd (omega (arith, last.0, within run r entry there))
  ];
}

pub sound_add_record : (s : State) (day : ℤ) (new : NewRecord) → IsSound s → IsDayNumber day → IsWellFormedNewRecord new → IsAccepted (refusals_of_add_record s.office day new) → IsSound (with_new_record s day new)
sound_add_record s day new sound day_well_formed formed accepted =
    let t = s.office.tree in
    let no = dated_accepted s.office day (conditions_of_add_record t new.ref_text new.aggregation new.class new.schedule) accepted in
    let head = new_head day new in
    let few = sound.limits.statuses in
    let of_tree = IsSound-add_record t head (tree_sound s sound) no.1 in
    record {
      limits = limits_after s day (added_record t head) sound of_tree.limits of_tree.statuses (IsWellFormed-add_record t head sound.limits.tree_forms (head_well_formed day new day_well_formed formed)) day_well_formed;
      forest = sound.forest;
      names = names_after s (added_record t head) sound of_tree.names (record { schedules = λ c there. there; classes = λ c there. there; aggregations = as_many (length t.aggregations); records = more_pushed t.records head });
      closed = sound.closed;
      contents = contents_pushed t.statuses (length t.records) few s.contents new.content sound.contents;
      documents = documents_pushed t.records t.statuses s.office.entries head few tt sound.documents (λ run r e there. (sound.names.of_entries run r e there).record_there.1);
      entries = entries_pushed t.statuses (length t.records) few s.office.runs s.office.entries sound.entries;
      runs = sound.runs;
      days = days_after s day (added_record t head) sound no.0 (closed_by s day sound no.0)
          (each_push (IsHeadBy day) t.records head (heads_by s day sound no.0) (record { added = ≤ℤ_refl day; reviewed = tt; confirmed = tt; receipted = tt }));
      events = events_later s day sound no.0 (more_pushed t.records head);
      refs = RefsDiffer-add_record t head sound.refs no.1;
    }
