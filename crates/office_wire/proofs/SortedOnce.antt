-- A list in a strict order is determined by its elements.
use Rattle.std.proofs.Common.{◌≡◌, ◌∙◌, ◌⊎◌, inl, inr, ap, refl, subst, sym, List, [], ◌∷◌}
use Rattle.std.specs.List.{Contains}
use Rattle.std.specs.List.Sorted.{IsStrictlySortedBy}
use Rattle.std.specs.Cmp.{IsTotalOrder}
use Rattle.std.specs.Ordering.{ordering_reverse}
use Rattle.std.proofs.Common.{arith, Ordering, Less}
use Rattle.std.proofs.lemmas.List.Elements.{All-contains, Contains-append_cases, Contains-append_left, Contains-append_right, Contains-push, Contains-push_cases}
use Rattle.std.proofs.lemmas.Map.Keys.{sorted_tail}
use Rattle.std.proofs.lemmas.Map.Views.{All-after_first}

module _ {K : Type 0} where
  none_in : (x : K) → Contains [] x → ⊥
  none_in x is = let few = is.1 in omega arith

  first_in : (x : K) (xs : List K) → Contains (x ∷ xs) x
  first_in x xs = Contains-append_left (x ∷ []) xs x (Contains-push [] x)

  later_in : (x : K) (xs : List K) (r : K) → Contains xs r → Contains (x ∷ xs) r
  later_in x xs r is = Contains-append_right (x ∷ []) xs r is

  only_in : (x r : K) → Contains (x ∷ []) r → x ≡ r
  only_in x r is = elim (Contains-push_cases [] x r is) [ inl none ↦ absurd (none_in r none) | inr same ↦ same ]

  in_either : (x : K) (xs : List K) (r : K) → Contains (x ∷ xs) r → (x ≡ r) ⊎ Contains xs r
  in_either x xs r is = elim (Contains-append_cases (x ∷ []) xs r is) [ inl here ↦ inl (only_in x r here) | inr later ↦ inr later ]

module _ {K : Type 0} (c : K → K → Ordering) (total : IsTotalOrder c) where
  not_back : (x y : K) → c x y ≡ Less → c y x ≡ Less → ⊥
  not_back x y up back = let reversed = total.antisymm x y in let turned = ap ordering_reverse back in cc

  is_above : (x : K) (xs : List K) (r : K) → IsStrictlySortedBy c (x ∷ xs) → Contains xs r → c x r ≡ Less
  is_above x xs r up is = All-contains (λ q. c x q ≡ Less) xs r (All-after_first c x xs up) is

  -- of two lists with the same elements the first are the same
  same_first : (x y : K) (xs ys : List K) → IsStrictlySortedBy c (x ∷ xs) → IsStrictlySortedBy c (y ∷ ys) → (x ≡ y) ⊎ Contains xs y → (y ≡ x) ⊎ Contains ys x → x ≡ y
  same_first x y xs ys up rise (inl is) other = is
  same_first x y xs ys up rise (inr low) (inl is) = sym is
  same_first x y xs ys up rise (inr low) (inr high) = absurd (not_back x y (is_above x xs y up low) (is_above y ys x rise high))

  -- what is in a list behind its first is no first
  not_first : (x r : K) (xs : List K) → IsStrictlySortedBy c (x ∷ xs) → Contains xs r → x ≡ r → ⊥
  not_first x r xs up is same =
      let below = is_above x xs r up is in
      let itself : c x x ≡ Less = subst (λ (q : K). c x q ≡ Less) (sym same) below in
      not_back x x itself itself

  behind : (x y : K) (xs ys : List K) → IsStrictlySortedBy c (x ∷ xs) → x ≡ y → ((r : K) → Contains (x ∷ xs) r → Contains (y ∷ ys) r) → (r : K) → Contains xs r → Contains ys r
  behind x y xs ys up same there r is =
      elim (in_either y ys r (there r (later_in x xs r is))) [ inl first ↦ absurd (not_first x r xs up is (same ∙ first)) | inr later ↦ later ]

  pub same_sorted : (xs ys : List K) → IsStrictlySortedBy c xs → IsStrictlySortedBy c ys → ((r : K) → Contains xs r → Contains ys r) → ((r : K) → Contains ys r → Contains xs r) → xs ≡ ys
  same_sorted [] [] up rise there back = refl
  same_sorted [] (y ∷ ys) up rise there back = absurd (none_in y (back y (first_in y ys)))
  same_sorted (x ∷ xs) [] up rise there back = absurd (none_in x (there x (first_in x xs)))
  same_sorted (x ∷ xs) (y ∷ ys) up rise there back =
      let same : x ≡ y = same_first x y xs ys up rise (in_either x xs y (back y (first_in y ys))) (in_either y ys x (there x (first_in x xs))) in
      let rest : xs ≡ ys = same_sorted xs ys (sorted_tail c x xs up) (sorted_tail c y ys rise) (behind x y xs ys up same there) (behind y x ys xs rise (sym same) back) in
      cc
