-- The entry that ended a record: the one under its number by which some run ended it.
use Rattle.std.proofs.Common.{◌≡◌, ◌==◌, ◌&&◌, ◌||◌, ◌+◌, ◌<◌, ◌≤◌, inl, inr, ℕ, Bool, true, false, cond, List, [], ◌∷◌, length, Option, Some, None, refl, sym, ap, ◌∙◌, arith}
use Rattle.std.proofs.lemmas.Bool.{and_parts, and_from, cases_lt}
use Rattle.std.proofs.lemmas.Bool.Decides.{nat_tests}
use Rattle.std.proofs.lemmas.List.Elements.{Contains-append_right}
use Rattle.std.specs.FinMap.{get, values}
use Rattle.std.specs.List.{Contains, find, list_any}
use Rattle.office_records.specs.Lists.{numbered}
use Rattle.office_records.specs.declared.status.Status.TheVariants.{Ended}
use Rattle.office_rules.specs.Outcomes.{is_ending}
use Rattle.office_rules.specs.declared.entry.Entry.{Entry}
use Rattle.office_rules.proofs.Listing.{found_value, is_any, value_found}
use Rattle.office_rules.proofs.SoundMaps.{one_there}
use Rattle.office_rules.specs.Readings.{ending_entry}
use Rattle.office_rules.specs.Sound.{IsSoundOffice}
use Rattle.office_rules.specs.State.{Office}

-- ---- the first that passes a test

found_by : {A : Type 0} (p : A → Bool) (x : A) (xs : List A) (y : A) (b : Bool) → p x ≡ b → cond b (Some x) (find p xs) ≡ Some y → (find p xs ≡ Some y → Contains xs y × (p y ≡ true))
    → Contains (x ∷ xs) y × (p y ≡ true)
found_by p x xs y true is found later = let same : x ≡ y = cc in ((0, omega arith, same), ap p (sym same) ∙ is)
found_by p x xs y false is found later = let one = later found in (Contains-append_right (x ∷ []) xs y one.0, one.1)

-- what is found is one of the list, and passes
found_is : {A : Type 0} (p : A → Bool) (xs : List A) (y : A) → find p xs ≡ Some y → Contains xs y × (p y ≡ true)
found_is p [] y found = absurd cc
found_is p (x ∷ xs) y found = found_by p x xs y (p x) refl found (found_is p xs y)

finds_by : {A : Type 0} (p : A → Bool) (x : A) (xs : List A) (b : Bool) → (b || list_any p xs) ≡ true → (list_any p xs ≡ true → (y : A) × (find p xs ≡ Some y)) → (y : A) × (cond b (Some x) (find p xs) ≡ Some y)
finds_by p x xs true any later = (x, refl)
finds_by p x xs false any later = later any

-- where one passes, one is found
finds : {A : Type 0} (p : A → Bool) (xs : List A) → list_any p xs ≡ true → (y : A) × (find p xs ≡ Some y)
finds p [] any = absurd cc
finds p (x ∷ xs) any = finds_by p x xs (p x) any (finds p xs)

none_is : {A : Type 0} (o : Option A) → ((y : A) → o ≡ Some y → ⊥) → o ≡ None
none_is None h = refl
none_is (Some y) h = absurd (h y refl)

-- ---- in a sound office

same_is : (m n : ℕ) → (m == n) ≡ true → m ≡ n
same_is m n h = grind (arith, nat_tests)

is_same : (m n : ℕ) → m ≡ n → (m == n) ≡ true
is_same m n h = grind (arith, nat_tests)

-- none of the first n runs ended the record
abbrev pub NoneEnded : Office → ℕ → ℕ → Type 0
NoneEnded s r n = (run : ℕ) (e : Entry) → 0 < run → run ≤ n → get s.entries (run, r) ≡ Some e → is_ending e.outcome ≡ true → ⊥

same_run : (run n : ℕ) → n < run → run ≤ n + 1 → run ≡ n + 1
same_run run n next high = omega arith

-- and neither did the next
none_more : (s : Office) (r n : ℕ) → NoneEnded s r n → ((e : Entry) → get s.entries (n + 1, r) ≡ Some e → is_ending e.outcome ≡ true → ⊥) → NoneEnded s r (n + 1)
none_more s r n before here run e low high there ends = elim (cases_lt n run) [
  | inl next ↦ here e (ap (λ k. get s.entries (k, r)) (sym (same_run run n next high)) ∙ there) ends
  | inr early ↦ before run e low early there ends
]

no_entry : (o : Option Entry) (e : Entry) → o ≡ None → o ≡ Some e → ⊥
no_entry o e none there = cc

-- where the next has no entry of the record, it did not end it either
pub none_by_next : (s : Office) (r n : ℕ) → NoneEnded s r n → get s.entries (n + 1, r) ≡ None → NoneEnded s r (n + 1)
none_by_next s r n before none = none_more s r n before (λ e there ends. no_entry (get s.entries (n + 1, r)) e none there)

goes_on : (e f : Entry) → f ≡ e → is_ending f.outcome ≡ false → is_ending e.outcome ≡ true → ⊥
goes_on e f same goes ends = let alike = ap (λ (x : Entry). is_ending x.outcome) same in cc

-- and so where the next has an entry of the record that did not end it
pub none_by_entry : (s : Office) (r n : ℕ) (f : Entry) → NoneEnded s r n → get s.entries (n + 1, r) ≡ Some f → is_ending f.outcome ≡ false → NoneEnded s r (n + 1)
none_by_entry s r n f before its goes = none_more s r n before (λ e there ends. goes_on e f (one_there (get s.entries (n + 1, r)) f e its there) goes ends)

-- an entry by which a run ended the record
abbrev Ends : Office → ℕ → ℕ → Entry → Type 0
Ends s run r e = (get s.entries (run, r) ≡ Some e) × (is_ending e.outcome ≡ true)

abbrev ended : ℕ → Entry → Bool
ended r e = e.record_no == r && is_ending e.outcome

module _ (s : Office) (sound : IsSoundOffice s) where
  -- what is reported as the entry that ended a record is under some run and the record
  reported_is : (r : ℕ) (e : Entry) → ending_entry s r ≡ Some e → (run : ℕ) × Ends s run r e
  unfolding IsSoundOffice
  reported_is r e reported =
      let found = found_is (ended r) (values s.entries) e reported in
      let passes = and_parts (e.record_no == r) (is_ending e.outcome) found.1 in
      let one = value_found s.entries e found.0 in
      let keyed = sound.1.entries.keyed one.0.0 one.0.1 e one.1 in
      let same : one.0.1 ≡ r = sym keyed.1 ∙ same_is e.record_no r passes.0 in
      (one.0.0, (ap (λ n. get s.entries (one.0.0, n)) (sym same) ∙ one.1, passes.1))

  -- an entry by which a run ended a record is reported as the one that ended it
  pub ending_is : (run r : ℕ) (e : Entry) → get s.entries (run, r) ≡ Some e → is_ending e.outcome ≡ true → ending_entry s r ≡ Some e
  unfolding IsSoundOffice
  ending_is run r e there ends =
      let keyed = sound.1.entries.keyed run r e there in
      let passes = and_from (e.record_no == r) (is_ending e.outcome) (is_same e.record_no r keyed.1) ends in
      let one = finds (ended r) (values s.entries) (is_any (ended r) (values s.entries) e (found_value s.entries (run, r) e there) passes) in
      let other = reported_is r one.0 one.1 in
      let same_run = sound.1.entries.once other.0 run r one.0 e other.1.0 there other.1.1 ends in
      let same = one_there (get s.entries (run, r)) one.0 e (ap (λ n. get s.entries (n, r)) (sym same_run) ∙ other.1.0) there in
      one.1 ∙ ap Some same

  -- where none of the runs ended a record, no entry is reported as the one that ended it
  pub no_ending : (r : ℕ) → NoneEnded s r (length s.runs) → ending_entry s r ≡ None
  unfolding IsSoundOffice
  no_ending r none = none_is (ending_entry s r) (λ e reported.
      let one = reported_is r e reported in
      let there = (sound.1.names.of_entries one.0 r e one.1.0).run_there in
      none one.0 e there.0 there.1 one.1.0 one.1.1)

  -- and so it is where the record is not ended
  pub not_ended : (r : ℕ) → (numbered s.tree.statuses r ≡ Some Ended → ⊥) → ending_entry s r ≡ None
  unfolding IsSoundOffice
  not_ended r other = none_is (ending_entry s r) (λ e reported. let one = reported_is r e reported in other (sound.1.entries.no_other one.0 r e one.1.0 one.1.1))
