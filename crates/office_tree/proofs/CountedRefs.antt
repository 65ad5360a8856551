-- The refs of a list differ exactly where its index has as many refs as the list has things.
use Rattle.std.proofs.Common.{◌≡◌, ℕ, zero, suc, ◌<◌, List, length, get_or, map, Option, Some, None, Bool, true, false, refl, sym, ap, ◌∙◌, arith, inl, inr}
use Rattle.std.specs.FinMap.{from_entries, get, get-from_entries}
use Rattle.std.specs.FinMap.Entries.{is_some-find}
use Rattle.std.specs.List.{IsDistinct, list_any, slice_get}
use Rattle.std.specs.List.Sorted.{IsStrictlySortedBy}
use Rattle.std.specs.Map.{keys_of}
use Rattle.std.specs.Option.{is_some, option_map}
use Rattle.std.specs.Ordering.{eq_by_cmp}
use Rattle.std.specs.Set.{distinct_count, is_member}
use Rattle.std.specs.Cmp.{eq_by_cmp_equiv}
use Rattle.std.specs.Cmp.Lexicographic.{nat_list_cmp_total}
use Rattle.std.proofs.lemmas.Bool.{cases_lt}
use Rattle.std.proofs.lemmas.List.{length-map}
use Rattle.std.proofs.lemmas.Map.Entries.{length-keys_of}
use Rattle.std.proofs.lemmas.Map.Keys.{IsDistinct-from_apart, IsDistinct-from_sorted, any_passes_from_place, apart_from_distinct}
use Rattle.std.proofs.lemmas.Map.Made.{IsDistinct-from_count, distinct_count-from_IsDistinct, length-from_keys}
use Rattle.std.proofs.lemmas.Map.Text.{is_eq-slice_cmp}
use Rattle.std.proofs.lemmas.Option.{get_or_from_slice_get, slice_get-get_or}
use Rattle.std.proofs.lemmas.Slice.Eq.{bytes_eq-Decides}
use Rattle.office_tree.specs.Indexes.{Indexes}
use Rattle.office_records.specs.Lists.{Differ, numbered}
use Rattle.office_records.specs.Tree.{code_cmp}
use Rattle.office_tree.proofs.FoundRefs.{any_none, not_true, numbered_map}
use Rattle.office_records.proofs.Places.{numbered_within}

abbrev alike : List ℕ → List ℕ → Bool
alike = eq_by_cmp code_cmp

alike_itself : (q : List ℕ) → alike q q ≡ true
alike_itself q = (eq_by_cmp_equiv nat_list_cmp_total).refl q

alike_same : (q k : List ℕ) → alike q k ≡ true → q ≡ k
alike_same q k e = (bytes_eq-Decides q k).0 (sym (is_eq-slice_cmp q k) ∙ e)

any_numbered : (refs : List (List ℕ)) (n : ℕ) (q : List ℕ) → numbered refs n ≡ Some q → list_any (alike q) refs ≡ true
any_numbered refs zero q e = absurd cc
any_numbered refs (suc n) q e = any_passes_from_place (alike q) refs n q e (alike_itself q)

-- ---- the index and the list have the same refs

module _ (entries : List (List ℕ × ℕ)) (refs : List (List ℕ)) (all : Indexes (from_entries {R = code_cmp} entries) refs) where
  member_by : (q : List ℕ) (o : Option ℕ) → get (from_entries {R = code_cmp} entries) q ≡ o → is_some o ≡ list_any (alike q) refs
  member_by q None e = sym (any_none (alike q) refs (λ n k at. not_true (alike q k) (λ same.
      let there = all.complete n k at in
      let gone : is_some (get (from_entries {R = code_cmp} entries) k) ≡ false = ap (λ x. is_some (get (from_entries {R = code_cmp} entries) x)) (sym (alike_same q k same)) ∙ ap is_some e in
      absurd cc)))
  member_by q (Some n) e = sym (any_numbered refs n q (all.right n q e))

  member : (q : List ℕ) → is_member alike (keys_of entries) q ≡ is_member alike refs q
  member q = sym (ap is_some (get-from_entries nat_list_cmp_total entries q) ∙ is_some-find code_cmp q entries) ∙ member_by q _ refl

  counted : IsStrictlySortedBy code_cmp (keys_of entries) → length entries ≡ distinct_count alike refs
  counted ordered =
      sym (length-keys_of entries)
      ∙ length-from_keys (eq_by_cmp_equiv nat_list_cmp_total) (keys_of entries) refs (IsDistinct-from_sorted code_cmp (keys_of entries) ordered) member

-- ---- refs that are all distinct differ, and the other way round

pub not_same : (b : Bool) → b ≡ true → b ≡ false → ⊥
not_same true t f = absurd cc
not_same false t f = absurd cc

apart : (refs : List (List ℕ)) (m n : ℕ) (q : List ℕ) → IsDistinct alike refs → numbered refs m ≡ Some q → numbered refs n ≡ Some q → m < n → ⊥
apart refs zero n q distinct at_m at_n low = absurd cc
apart refs (suc i) zero q distinct at_m at_n low = absurd cc
apart refs (suc i) (suc j) q distinct at_m at_n low =
    let within = numbered_within refs (suc j) q at_n in
    let other = apart_from_distinct alike refs i j q distinct (omega (arith, low)) (omega (arith, within.1)) in
    not_same (alike (get_or refs i q) (get_or refs j q))
    (ap (λ k. alike k (get_or refs j q)) (get_or_from_slice_get refs i q q at_m) ∙ ap (alike q) (get_or_from_slice_get refs j q q at_n) ∙ alike_itself q)
    other

module _ {A : Type 0} (name : A → List ℕ) (xs : List A) where
  named : (n : ℕ) (q : List ℕ) (o : Option A) → numbered xs n ≡ o → option_map name o ≡ Some q → (x : A) × (numbered xs n ≡ Some x) × (name x ≡ q)
  named n q None at e = absurd cc
  named n q (Some x) at e = (x, at, cc)

  differ : IsDistinct alike (map name xs) → Differ name xs
  differ distinct m n x y at_m at_n same =
      let here : numbered (map name xs) m ≡ Some (name x) = numbered_map name xs m ∙ ap (option_map name) at_m in
      let there : numbered (map name xs) n ≡ Some (name x) = numbered_map name xs n ∙ ap (option_map name) at_n ∙ ap Some (sym same) in
      elim (cases_lt m n) [
        | inl low ↦ absurd (apart (map name xs) m n (name x) distinct here there low)
        | inr high ↦ elim (cases_lt n m) [
          | inl low ↦ absurd (apart (map name xs) n m (name x) distinct there here low)
          | inr low ↦ omega (arith, high, low)
        ]
      ]

  distinct_by : Differ name xs → (i j : ℕ) (p q : List ℕ) → i < j → slice_get (map name xs) i ≡ Some p → slice_get (map name xs) j ≡ Some q → p ≡ q → ⊥
  distinct_by apart_all i j p q low at_i at_j same =
      let x = named (suc i) p (numbered xs (suc i)) refl (sym (numbered_map name xs (suc i)) ∙ at_i) in
      let y = named (suc j) q (numbered xs (suc j)) refl (sym (numbered_map name xs (suc j)) ∙ at_j) in
      let one : suc i ≡ suc j = apart_all (suc i) (suc j) x.0 y.0 x.1 y.1 (x.2 ∙ same ∙ sym y.2) in
      absurd (omega (arith, low, one))

  distinct : Differ name xs → IsDistinct alike (map name xs)
  distinct apart_all = IsDistinct-from_apart alike (map name xs) (λ i j d low high. not_true _ (λ same.
      distinct_by apart_all i j (get_or (map name xs) i d) (get_or (map name xs) j d) low
      (slice_get-get_or (map name xs) i d (omega (arith, low, high)))
      (slice_get-get_or (map name xs) j d high)
      (alike_same _ _ same)))

  module _ (entries : List (List ℕ × ℕ)) (all : Indexes (from_entries {R = code_cmp} entries) (map name xs)) (ordered : IsStrictlySortedBy code_cmp (keys_of entries)) where
    many : length (map name xs) ≡ length xs
    many = length-map xs name

    -- as many: no two of the list have one ref
    pub counted_differ : length entries ≡ length xs → Differ name xs
    counted_differ e =
        differ (IsDistinct-from_count (eq_by_cmp_equiv nat_list_cmp_total) (map name xs) (sym (counted entries (map name xs) all ordered) ∙ e ∙ sym many))

    -- and where no two have one, the index has as many
    pub differ_counted : Differ name xs → length entries ≡ length xs
    differ_counted apart_all =
        counted entries (map name xs) all ordered ∙ distinct_count-from_IsDistinct (eq_by_cmp_equiv nat_list_cmp_total) (map name xs) (distinct apart_all) ∙ many
