-- A set within another has no more members.
use Rattle.std.proofs.Common.{◌≡◌, ℕ, zero, suc, ◌-◌, ◌<◌, ◌≤◌, List, [], ◌∷◌, Bool, true, false, cond, not, ◌||◌, ◌&&◌, refl, sym, ap, ◌∙◌, arith, true≢false}
use Rattle.std.specs.declared.cmp.Ordering.{Ordering}
use Rattle.std.specs.Ordering.{eq_by_cmp, is_eq}
use Rattle.std.specs.Cmp.{IsTotalOrder, tied_itself}
use Rattle.std.specs.List.{list_any}
use Rattle.std.specs.FinMap.{IsAntisymmetric}
use Rattle.std.specs.FinSet as set
use Rattle.std.specs.FinSet.{FinSet, contains, contains-empty, contains-items, contains-remove, empty, empty_of_len, items, same_set}

still : (a b c : Bool) → (b ≡ true → c ≡ true) → (not a && b) ≡ true → (not a && c) ≡ true
still true b c so e = absurd cc
still false b c so e = so e

module _ {K : Type 0} {R : K → K → Ordering} (o : IsTotalOrder R) (same : IsAntisymmetric R) where
  -- a set with a member is not of length 0
  some_by : (t : FinSet R) (k : K) (n : ℕ) → contains t k ≡ true → set.len t ≡ n → 0 < n
  some_by t k zero is e = absurd (true≢false (sym is ∙ ap (λ s. contains s k) (empty_of_len t e) ∙ contains-empty R k))
  some_by t k (suc n) is e = omega arith

  member_by : (s : FinSet R) (n : ℕ) (ks : List K) → set.len s ≡ suc n → items s ≡ ks → (k : K) × (contains s k ≡ true)
  member_by s n [] e is =
      let none : s ≡ empty = same_set o same s empty (λ q. contains-items s q ∙ ap (list_any (eq_by_cmp R q)) is ∙ sym (contains-empty R q)) in
      let no_length = ap set.len none ∙ set.len-empty R in
      absurd (omega (arith, e, no_length))
  member_by s n (k ∷ ks) e is = (k, contains-items s k ∙ ap (list_any (eq_by_cmp R k)) is ∙ ap (λ b. b || list_any (eq_by_cmp R k) ks) (ap is_eq (tied_itself o k)))

  fewer : (s : FinSet R) (k : K) → contains s k ≡ true → set.len (set.remove s k) ≡ set.len s - 1
  fewer s k is = set.len-remove o s k ∙ ap (λ b. cond b (set.len s - 1) (set.len s)) is

  within_by : (n : ℕ) (s t : FinSet R) → set.len s ≡ n → ((q : K) → contains s q ≡ true → contains t q ≡ true) → n ≤ set.len t
  within_by zero s t e all = omega arith
  within_by (suc n) s t e all =
      let (k, is) = member_by s n (items s) e refl in
      let left : set.len (set.remove s k) ≡ n = omega (arith, fewer s k is, e) in
      let rest = within_by n (set.remove s k) (set.remove t k) left (λ q has. contains-remove o t k q ∙ still (eq_by_cmp R q k) (contains s q) (contains t q) (all q) (sym (contains-remove o s k q) ∙ has)) in
      omega (arith, rest, fewer t k (all k is), some_by t k (set.len t) (all k is) refl)

  pub len_within : (s t : FinSet R) → ((q : K) → contains s q ≡ true → contains t q ≡ true) → set.len s ≤ set.len t
  len_within s t all = within_by (set.len s) s t refl all
