-- The record that was added before is the one with its ref, where refs differ.
use Rattle.std.proofs.Common.{◌≡◌, ℕ, zero, suc, ◌+◌, Bool, true, false, cond, List, [], ◌∷◌, length, Some, None, refl, sym, ap, ◌∙◌, arith}
use Rattle.std.specs.Prelude.{slice_get, ◌==◌, ◌&&◌}
use Rattle.std.specs.Ordering.{int_eq}
use Rattle.sha2.specs.Sha256.{sha256}
use Rattle.std.specs.List.{list_any}
use Rattle.std.specs.Option.{option_map}
use Rattle.std.specs.Str.{bytes_eq}
use Rattle.std.proofs.lemmas.Slice.Eq.{bytes_eq-Decides}
use Rattle.office_records.specs.Lists.{numbered, Differ}
use Rattle.office_records.specs.declared.head.Record.{Record}
use Rattle.office_records.proofs.Accepting.{none_at}
use Rattle.office_rules.specs.Conditions.{is_same_record, number_passing}
use Rattle.office_rules.specs.NewRecords.{NewRecord}

-- where none passes there is none
passing_none : {A : Type 0} (test : A → Bool) (n : ℕ) (xs : List A) → ((i : ℕ) (x : A) → slice_get xs i ≡ Some x → test x ≡ false) → number_passing test n xs ≡ None
passing_none test n [] none = refl
passing_none test n (x ∷ xs) none = ap (λ b. cond b (Some n) (number_passing test (suc n) xs)) (none 0 x refl) ∙ passing_none test (suc n) xs (λ i y e. none (suc i) y e)

-- and the one that passes alone is the first
passing_one : {A : Type 0} (test : A → Bool) (n : ℕ) (xs : List A) (k : ℕ) (x : A) → slice_get xs k ≡ Some x → test x ≡ true → ((i : ℕ) (y : A) → slice_get xs i ≡ Some y → test y ≡ true → i ≡ k)
    → number_passing test n xs ≡ Some (n + k)
passing_one test n [] k x there passes alone = absurd cc
passing_one test n (z ∷ zs) zero x there passes alone =
    let here : test z ≡ true = ap test (let same : z ≡ x = cc in same) ∙ passes in
    let same : n ≡ n + 0 = omega arith in
    ap (λ b. cond b (Some n) (number_passing test (suc n) zs)) here ∙ ap Some same
passing_one {A} test n (z ∷ zs) (suc k) x there passes alone =
    let later : suc n + k ≡ n + suc k = omega arith in
    ap (λ b. cond b (Some n) (number_passing test (suc n) zs)) (first_fails (test z) refl)
    ∙ passing_one test (suc n) zs k x there passes (λ i y e p. one_less i (alone (suc i) y e p))
    ∙ ap Some later
  where
    one_less : (i : ℕ) → suc i ≡ suc k → i ≡ k
    one_less i e = omega (arith, e)

    first_fails : (b : Bool) → test z ≡ b → b ≡ false
    first_fails true e = let none : zero ≡ suc k = alone 0 z refl e in absurd (omega (arith, none))
    first_fails false e = refl

first_of_six : (a b c d e f : Bool) → (a && b && c && d && e && f) ≡ true → a ≡ true
first_of_six true b c d e f h = refl
first_of_six false b c d e f h = absurd cc

-- what is the same has the same ref
same_ref : (new : NewRecord) (head : Record) → is_same_record new head ≡ true → new.ref_text ≡ head.ref_text
same_ref new head same =
    (bytes_eq-Decides new.ref_text head.ref_text).0
    (first_of_six (bytes_eq new.ref_text head.ref_text) (bytes_eq new.title head.title) (int_eq new.originated head.originated) (new.aggregation == head.aggregation) (length new.content == head.length)
    (bytes_eq (sha256 new.content) head.digest) same)

not_true : (b : Bool) → (b ≡ true → ⊥) → b ≡ false
not_true true h = absurd (h refl)
not_true false h = refl

-- what a record is called that was found by its ref
pub named : (records : List Record) (r : ℕ) (head : Record) (new : NewRecord) → numbered records r ≡ Some head → option_map (λ (it : Record). it.ref_text) (numbered records r) ≡ Some new.ref_text → head.ref_text ≡ new.ref_text
named records r head new there reported = let both = sym (ap (option_map (λ (it : Record). it.ref_text)) there) ∙ reported in cc

module _ (new : NewRecord) (records : List Record) where
  -- no record has the ref
  pub none_is_same : list_any (λ head. bytes_eq head.ref_text new.ref_text) records ≡ false → number_passing (is_same_record new) 1 records ≡ None
  none_is_same none = passing_none (is_same_record new) 1 records (λ i head there. not_true (is_same_record new head) (λ same.
      let other = none_at (λ (it : Record). bytes_eq it.ref_text new.ref_text) records (suc i) head none there in
      let alike = (bytes_eq-Decides head.ref_text new.ref_text).1 (sym (same_ref new head same)) in
      cc))

  module _ (differ : Differ (λ head. head.ref_text) records) (r : ℕ) (head : Record) (there : numbered records r ≡ Some head) (named : head.ref_text ≡ new.ref_text) where
    -- what is the same has the number under the ref
    alone : (n : ℕ) (other : Record) → numbered records n ≡ Some other → is_same_record new other ≡ true → n ≡ r
    alone n other at same = differ n r other head at there (sym (same_ref new other same) ∙ sym named)

    pub ref_is_same : is_same_record new head ≡ true → number_passing (is_same_record new) 1 records ≡ Some r
    ref_is_same same = by_number r refl
      where
        by_number : (k : ℕ) → r ≡ k → number_passing (is_same_record new) 1 records ≡ Some r
        by_number zero is = let at = ap (numbered records) (sym is) ∙ there in absurd cc
        by_number (suc k) is =
            let at : slice_get records k ≡ Some head = ap (numbered records) (sym is) ∙ there in
            let next : 1 + k ≡ r = omega (arith, is) in
            passing_one (is_same_record new) 1 records k head at same (λ i other e p. let n = alone (suc i) other e p in omega (arith, n, is)) ∙ ap Some next

    pub ref_is_another : is_same_record new head ≡ false → number_passing (is_same_record new) 1 records ≡ None
    ref_is_another other = passing_none (is_same_record new) 1 records (λ i it at. not_true (is_same_record new it) (λ same.
        let n : suc i ≡ r = alone (suc i) it at same in
        let here : numbered records r ≡ Some it = ap (numbered records) (sym n) ∙ at in
        let is : head ≡ it = cc in
        let fails = ap (is_same_record new) (sym is) ∙ other in
        cc))
