-- Keys and the records that are not ended, each in the order of their numbers, side by side.
use Rattle.std.proofs.Common.{◌≡◌, ℕ, ◌+◌, ◌<◌, ◌≤◌, List, length, get_or, All, Some, true, false, not, refl, sym, ap, subst, ◌∙◌, arith, inl, inr}
use Rattle.std.specs.FinMap.{contains_key, entries}
use Rattle.std.specs.Cmp.{nat_cmp_total}
use Rattle.std.specs.List.Sorted.{IsStrictlySortedBy}
use Rattle.std.specs.Map.{keys_of}
use Rattle.std.specs.Ordering.{nat_cmp}
use Rattle.std.specs.Prelude.{slice_get}
use Rattle.std.proofs.lemmas.Bool.{cases_lt}
use Rattle.std.proofs.lemmas.Map.Keys.{below_from_sorted}
use Rattle.std.proofs.lemmas.Option.{get_or_from_slice_get, slice_get-get_or, slice_get_within}
use Rattle.office_base.proofs.Maps.{entries_of_ordered}
use Rattle.office_records.specs.Disposal.{is_ended}
use Rattle.office_records.specs.Lists.{is_some_and, numbered}
use Rattle.office_records.specs.declared.status.Status.{Status}
use Rattle.office_records.proofs.Places.{numbered_within}
use Rattle.office_machine.specs.Keys.{bare_contents, bare_rows}
use Rattle.office_machine.proofs.MapRows.{keys_of_none}
use Rattle.office_machine.proofs.RunTests.{at_keys, from_keys, numbers_more, numbers_none, passing}

-- ---- contents of keys

-- contents of keys that ascend have just these keys
pub keys_of_bare : (keys : List ℕ) → IsStrictlySortedBy nat_cmp keys → keys_of (entries (bare_contents keys)) ≡ keys
keys_of_bare keys ascend =
    ap keys_of (entries_of_ordered nat_cmp nat_cmp_total (bare_rows keys) (subst (λ ks. IsStrictlySortedBy nat_cmp ks) (sym (keys_of_none keys)) ascend)) ∙ keys_of_none keys

-- what holds of each key holds of each number that there is a content of
pub at_bare : (P : ℕ → Type 0) (keys : List ℕ) → All P keys → (q : ℕ) → contains_key (bare_contents keys) q ≡ true → P q
at_bare P keys all = at_keys P (bare_rows keys) (subst (All P) (sym (keys_of_none keys)) all)

-- there is a content of each key
pub each_bare : (keys : List ℕ) → All (λ q. contains_key (bare_contents keys) q ≡ true) keys
each_bare keys = subst (All (λ q. contains_key (bare_contents keys) q ≡ true)) (keys_of_none keys) (from_keys (λ q. contains_key (bare_contents keys) q ≡ true) (bare_rows keys) (λ q there. there))

-- ---- side by side

-- the status is not that of an ended record
abbrev IsActive : Status → Type 0
IsActive status = not (is_ended status) ≡ true

-- each key is the number of a record that is not ended
abbrev pub AreActive : List Status → List ℕ → Type 0
AreActive statuses keys = All (λ r. is_some_and (numbered statuses r) (λ status. not (is_ended status)) ≡ true) keys

-- the record of the number, if it is not ended, has a key
abbrev pub IsKeyed : List ℕ → ℕ → Status → Type 0
IsKeyed keys r status = IsActive status → contains_key (bare_contents keys) r ≡ true

-- the first i records have gone by, and as many keys as there are active ones of them
pub record HaveGoneBy (statuses : List Status) (keys : List ℕ) (i at : ℕ) : Type 0 where
  pub gone : (k d : ℕ) → k < at → k < length keys → get_or keys k d ≤ i
  pub left : (k d : ℕ) → at ≤ k → k < length keys → i < get_or keys k d
  pub keyed : (r : ℕ) (status : Status) → r ≤ i → numbered statuses r ≡ Some status → IsKeyed keys r status

module _ (statuses : List Status) (keys : List ℕ) (active : AreActive statuses keys) where
  -- the record of a key
  of_key : (k d : ℕ) → k < length keys → (status : Status) × (numbered statuses (get_or keys k d) ≡ Some status) × IsActive status
  of_key k d low = passing (λ status. not (is_ended status)) (numbered statuses (get_or keys k d)) (active k d low)

  -- before the first record
  pub none_gone : HaveGoneBy statuses keys 0 0
  none_gone = record {
    gone = λ k d before low. absurd (omega (arith, before));
    left = λ k d after low. let it = of_key k d low in (numbered_within statuses (get_or keys k d) it.0 it.1).0;
    keyed = numbers_none (IsKeyed keys) statuses;
  }

  -- a record that is ended goes by
  pub ended_goes : (i at : ℕ) (status : Status) → HaveGoneBy statuses keys i at → numbered statuses (i + 1) ≡ Some status → not (is_ended status) ≡ false → HaveGoneBy statuses keys (i + 1) at
  ended_goes i at status are there ended = record {
    gone = λ k d before low. let under = are.gone k d before low in omega (arith, under);
    left = λ k d after low. elim (cases_lt (i + 1) (get_or keys k d)) [
      | inl above ↦ above
      | inr below ↦
          let over = are.left k d after low in
          let same : get_or keys k d ≡ i + 1 = omega (arith, over, below) in
          let it = of_key k d low in
          let is : Some it.0 ≡ Some status = sym it.1 ∙ ap (numbered statuses) same ∙ there in
          absurd (cc (is, it.2, ended))
    ];
    keyed = numbers_more (IsKeyed keys) statuses i status there (λ here. absurd (cc (here, ended))) are.keyed;
  }

  module _ (ascend : IsStrictlySortedBy nat_cmp keys) where
    -- a record that has the next key goes by with it
    pub key_goes : (i at : ℕ) (status : Status) → HaveGoneBy statuses keys i at → numbered statuses (i + 1) ≡ Some status → slice_get keys at ≡ Some (i + 1) → HaveGoneBy statuses keys (i + 1) (at + 1)
    key_goes i at status are there key =
        let within = slice_get_within keys at (i + 1) key in
        let is : (d : ℕ) → get_or keys at d ≡ i + 1 = λ d. get_or_from_slice_get keys at (i + 1) d key in
        record {
          gone = λ k d before low. elim (cases_lt k at) [
            | inl earlier ↦ let under = are.gone k d earlier low in omega (arith, under)
            | inr later ↦
                let same : k ≡ at = omega (arith, before, later) in
                let here : get_or keys k d ≡ i + 1 = ap (λ j. get_or keys j d) same ∙ is d in
                omega (arith, here)
          ];
          left = λ k d after low.
              let over = below_from_sorted keys at k d ascend (omega (arith, after)) low in
              let here = is d in
              omega (arith, over, here);
          keyed = numbers_more (IsKeyed keys) statuses i status there
              (λ _. subst (λ q. contains_key (bare_contents keys) q ≡ true) (is 0) (each_bare keys at 0 within)) are.keyed;
        }

    -- the next record has no key but the next
    pub goes_with_key : (i at : ℕ) → HaveGoneBy statuses keys i at → contains_key (bare_contents keys) (i + 1) ≡ true → slice_get keys at ≡ Some (i + 1)
    goes_with_key i at are there = at_bare (λ q. q ≡ i + 1 → slice_get keys at ≡ Some (i + 1)) keys (λ k d low same. elim (cases_lt k at) [
      | inl earlier ↦ let under = are.gone k d earlier low in absurd (omega (arith, under, same))
      | inr later ↦ elim (cases_lt at k) [
        | inl past ↦
            let over = below_from_sorted keys at k d ascend past low in
            let first = are.left at d (omega arith) (omega (arith, past, low)) in
            absurd (omega (arith, over, first, same))
        | inr before ↦
            let is : at ≡ k = omega (arith, later, before) in
            ap (slice_get keys) is ∙ slice_get-get_or keys k d low ∙ ap (λ q. Some q) same
      ]
    ]) (i + 1) there refl
