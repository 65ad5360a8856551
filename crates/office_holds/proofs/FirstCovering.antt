-- The least code whose hold passes a test, found among codes in order that have all such codes.
use Rattle.std.proofs.Common.{◌≡◌, ◌≢◌, ◌⊎◌, inl, inr, ℕ, List, [], ◌∷◌, filter, slice_get, Bool, true, false, cond, ◌||◌, Option, Some, None, refl, sym, ap, ◌∙◌, true≢false}
use Rattle.std.specs.declared.cmp.Ordering.{Ordering}
use Rattle.std.specs.declared.cmp.Ordering.TheVariants.{Less, Equal, Greater}
use Rattle.std.specs.Ordering.{eq_by_cmp, is_eq, ordering_reverse}
use Rattle.std.specs.Cmp.{Equal-is, alike_right, tied_back, tied_itself}
use Rattle.std.specs.Cmp.Lexicographic.{nat_list_cmp_total}
use Rattle.std.specs.FinMap.Entries.{find}
use Rattle.std.specs.List.{AllByRecursion, list_any}
use Rattle.std.specs.List.Sorted.{IsStrictlySortedBy}
use Rattle.std.proofs.lemmas.Map.Keys.{sorted_head, sorted_tail}
use Rattle.office_records.specs.Lists.{is_some_and}
use Rattle.office_records.specs.Tree.{code_cmp}
use Rattle.office_records.proofs.Inserting.{same_code}
use Rattle.office_holds.proofs.CoveringRows.{codes_apart}
use Rattle.office_holds.proofs.Entries.{Passes, Rises, first_least, first_passing, none_passes, not_after, not_after_less, passes_any}

-- ---- a least code

-- it is such a code, and no such code is before it; there is none where there is no such code
abbrev IsLeast : (List ℕ → Type 0) → Option (List ℕ) → Type 0
IsLeast P None = (q : List ℕ) → P q → ⊥
IsLeast P (Some c) = P c × ((q : List ℕ) → P q → code_cmp c q ≢ Greater)

neither_after : (c d : List ℕ) (r : Ordering) → code_cmp c d ≡ r → code_cmp c d ≢ Greater → code_cmp d c ≢ Greater → c ≡ d
neither_after c d Less is before back = absurd (back (nat_list_cmp_total.antisymm d c ∙ ap ordering_reverse is))
neither_after c d Equal is before back = codes_apart c d is
neither_after c d Greater is before back = absurd (before is)

-- there is only one
one_least : (P : List ℕ → Type 0) (a b : Option (List ℕ)) → IsLeast P a → IsLeast P b → a ≡ b
one_least P None None x y = refl
one_least P (Some c) None x y = absurd (y c x.0)
one_least P None (Some d) x y = absurd (x d y.0)
one_least P (Some c) (Some d) x y = ap Some (neither_after c d (code_cmp c d) refl (x.1 d y.0) (y.1 c x.0))

least_alike : (P Q : List ℕ → Type 0) → ((q : List ℕ) → P q → Q q) → ((q : List ℕ) → Q q → P q) → (o : Option (List ℕ)) → IsLeast P o → IsLeast Q o
least_alike P Q to back None least = λ q is. least q (back q is)
least_alike P Q to back (Some c) least = (to c least.0, λ q is. least.1 q (back q is))

-- ---- the first of codes in order

abbrev IsIn : List (List ℕ) → List ℕ → Type 0
IsIn ks q = list_any (eq_by_cmp code_cmp q) ks ≡ true

here_or_later : (b c : Bool) → (b || c) ≡ true → (b ≡ true) ⊎ (c ≡ true)
here_or_later true c e = inl refl
here_or_later false c e = inr e

later_too : (b c : Bool) → c ≡ true → (b || c) ≡ true
later_too true c e = refl
later_too false c e = e

is_less_by : (k q j : List ℕ) (ks : List (List ℕ)) → code_cmp k j ≡ Less → (IsIn ks q → code_cmp k q ≡ Less) → (eq_by_cmp code_cmp q j ≡ true) ⊎ IsIn ks q → code_cmp k q ≡ Less
is_less_by k q j ks less rest (inl tie) = alike_right nat_list_cmp_total q j k ((Equal-is (code_cmp q j)).0 tie) ∙ less
is_less_by k q j ks less rest (inr later) = rest later

-- what is in a list of later codes is later
is_less : (k q : List ℕ) (ks : List (List ℕ)) → AllByRecursion (λ j. code_cmp k j ≡ Less) ks → IsIn ks q → code_cmp k q ≡ Less
is_less k q [] all there = absurd cc
is_less k q (j ∷ ks) all there = is_less_by k q j ks all.0 (is_less k q ks all.1) (here_or_later (eq_by_cmp code_cmp q j) (list_any (eq_by_cmp code_cmp q) ks) there)

module _ (here : List ℕ → Bool) where
  abbrev IsOneOf : List (List ℕ) → List ℕ → Type 0
  IsOneOf ks q = IsIn ks q × (here q ≡ true)

  before : (k : List ℕ) (ks : List (List ℕ)) (q : List ℕ) → IsStrictlySortedBy code_cmp (k ∷ ks) → (eq_by_cmp code_cmp q k ≡ true) ⊎ IsIn ks q → code_cmp k q ≢ Greater
  before k ks q sorted (inl tie) = not_after (code_cmp k q) (tied_back nat_list_cmp_total q k ((Equal-is (code_cmp q k)).0 tie))
  before k ks q sorted (inr later) = not_after_less (code_cmp k q) (is_less k q ks (sorted_head code_cmp k ks sorted) later)

  among_later : (k : List ℕ) (ks : List (List ℕ)) (q : List ℕ) → here k ≡ false → here q ≡ true → (eq_by_cmp code_cmp q k ≡ true) ⊎ IsIn ks q → IsIn ks q
  among_later k ks q none is (inl tie) = absurd (true≢false (sym is ∙ ap here (same_code q k tie) ∙ none))
  among_later k ks q none is (inr later) = later

  least_by : (k : List ℕ) (ks : List (List ℕ)) (b : Bool) → here k ≡ b → IsStrictlySortedBy code_cmp (k ∷ ks) → IsLeast (IsOneOf ks) (slice_get (filter here ks) 0)
      → IsLeast (IsOneOf (k ∷ ks)) (slice_get (cond b (k ∷ filter here ks) (filter here ks)) 0)
  least_by k ks true is sorted rest = (
    (ap (λ o. is_eq o || list_any (eq_by_cmp code_cmp k) ks) (tied_itself nat_list_cmp_total k), is),
    λ q (there, passes). before k ks q sorted (here_or_later (eq_by_cmp code_cmp q k) (list_any (eq_by_cmp code_cmp q) ks) there),
  )
  least_by k ks false is sorted rest =
      least_alike (IsOneOf ks) (IsOneOf (k ∷ ks)) (λ q (there, passes). (later_too (eq_by_cmp code_cmp q k) (list_any (eq_by_cmp code_cmp q) ks) there, passes))
      (λ q (there, passes). (among_later k ks q is passes (here_or_later (eq_by_cmp code_cmp q k) (list_any (eq_by_cmp code_cmp q) ks) there), passes)) (slice_get (filter here ks) 0) rest

  -- the first that passes is the least that does
  least_of : (ks : List (List ℕ)) → IsStrictlySortedBy code_cmp ks → IsLeast (IsOneOf ks) (slice_get (filter here ks) 0)
  least_of [] sorted = λ q (there, passes). absurd cc
  least_of (k ∷ ks) sorted = least_by k ks (here k) refl sorted (least_of ks (sorted_tail code_cmp k ks sorted))

-- ---- the first of entries in order

least_passing : {V : Type 0} (test : V → Bool) (es : List (List ℕ × V)) (o : Option (List ℕ)) → Rises es → first_passing test es ≡ o → IsLeast (Passes test es) o
least_passing test es None rises first = λ q passes. absurd (true≢false (sym (passes_any test es q passes) ∙ (none_passes test es).0 first))
least_passing test es (Some c) rises first = first_least test es c rises first

passing : {V : Type 0} (test : V → Bool) (o : Option V) → is_some_and o test ≡ true → (v : V) × (o ≡ Some v) × (test v ≡ true)
passing test None e = absurd cc
passing test (Some v) e = (v, refl, e)

is_passing : {V : Type 0} (test : V → Bool) (es : List (List ℕ × V)) (q : List ℕ) → Passes test es q → is_some_and (find code_cmp q es) test ≡ true
is_passing {V} test es q (v, found, passes) = ap (λ (o : Option V). is_some_and o test) found ∙ passes

-- among codes in order that have the code of each entry that passes, the first whose entry passes is that of the first entry that does
pub first_among : {V : Type 0} (test : V → Bool) (es : List (List ℕ × V)) (ks : List (List ℕ)) → Rises es → IsStrictlySortedBy code_cmp ks → ((q : List ℕ) → Passes test es q → IsIn ks q)
    → slice_get (filter (λ k. is_some_and (find code_cmp k es) test) ks) 0 ≡ first_passing test es
first_among test es ks rises sorted all =
    let here : List ℕ → Bool = λ k. is_some_and (find code_cmp k es) test in
    one_least (Passes test es) (slice_get (filter here ks) 0) (first_passing test es)
    (least_alike (IsOneOf here ks) (Passes test es) (λ q is. passing test (find code_cmp q es) is.1) (λ q is. (all q is, is_passing test es q is)) (slice_get (filter here ks) 0) (least_of here ks sorted))
    (least_passing test es (first_passing test es) rises refl)
