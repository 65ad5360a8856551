-- Lists that fall by some rank do not run in a circle: each record is once among those from one on.
use Rattle.std.proofs.Common.{◌≡◌, ◌≢◌, ℕ, zero, suc, ◌+◌, ◌<◌, ◌≤◌, Bool, true, false, ltb, cond, List, ◌∷◌, length, Option, Some, None, refl, sym, ap, subst, ◌∙◌, ◌⊎◌, inl, inr, arith}
use Rattle.std.specs.Prelude.{unwrap_or}
use Rattle.std.proofs.lemmas.Bool.Decides.{nat_tests}
use Rattle.office_records.specs.Lists.{numbered}
use Rattle.office_tree.specs.ClassLists.{listed, next_of, rest}
use Rattle.office_tree.proofs.Puts.{numbered_low, same_or_not}

-- ---- ranks that are few

-- of the numbers to n, how many have a rank below k
abbrev pub below : (ℕ → ℕ) → ℕ → ℕ → ℕ
below rank k zero = 0
below rank k (suc n) = below rank k n + cond (ltb (rank (suc n)) k) 1 0

one_most : (b : Bool) → cond b 1 0 ≤ 1
one_most true = omega arith
one_most false = omega arith

pub below_most : (rank : ℕ → ℕ) (k n : ℕ) → below rank k n ≤ n
below_most rank k zero = omega arith
below_most rank k (suc n) = let h = below_most rank k n in let one = one_most (ltb (rank (suc n)) k) in omega (arith, h, one)

one_rises : (x k l : ℕ) → k ≤ l → cond (ltb x k) 1 0 ≤ cond (ltb x l) 1 0
one_rises x k l h = grind (arith, nat_tests)

below_rises : (rank : ℕ → ℕ) (k l n : ℕ) → k ≤ l → below rank k n ≤ below rank l n
below_rises rank k l zero h = omega arith
below_rises rank k l (suc n) h = let rest_rises = below_rises rank k l n h in let one = one_rises (rank (suc n)) k l h in omega (arith, rest_rises, one)

one_more : (x l : ℕ) → x < l → cond (ltb x x) 1 0 < cond (ltb x l) 1 0
one_more x l h = grind (arith, nat_tests)

below_more : (rank : ℕ → ℕ) (q l n : ℕ) → 0 < q → q ≤ n → rank q < l → (q ≡ n) ⊎ (q ≢ n) → below rank (rank q) n < below rank l n
below_more rank q l zero low high up at = absurd (omega (arith, low, high))
below_more rank q l (suc n) low high up (inl same) =
    let rises = below_rises rank (rank q) l n (omega (arith, up)) in
    let one = subst (λ (m : ℕ). cond (ltb (rank m) (rank q)) 1 0 < cond (ltb (rank m) l) 1 0) same (one_more (rank q) l up) in
    omega (arith, rises, one)
below_more rank q l (suc n) low high up (inr other) =
    let more = below_more rank q l n low (omega (arith, high, other)) up (same_or_not q n) in
    let one = one_rises (rank (suc n)) (rank q) l (omega (arith, up)) in
    omega (arith, more, one)

-- ---- lists

pub some_next : (o : Option ℕ) → 0 < unwrap_or o 0 → o ≡ Some (unwrap_or o 0)
some_next None low = absurd (omega (arith, low))
some_next (Some x) low = refl

module _ (next : List ℕ) (rank : ℕ → ℕ) (inside : (r q : ℕ) → numbered next r ≡ Some q → q ≤ length next) (lowers : (r q : ℕ) → numbered next r ≡ Some q → 0 < q → rank q < rank r) where
  -- how many are ranked below a record: a rank that is at most their number
  abbrev pub place : ℕ → ℕ
  place r = below rank (rank r) (length next)

  pub lower : (r q : ℕ) → numbered next r ≡ Some q → 0 < q → place q < place r
  lower r q e low =
      below_more rank q (rank r) (length next) low (inside r q e) (lowers r q e low) (same_or_not q (length next))

  -- so many are enough
  pub enough : (most at : ℕ) → (0 < at → place at < most) → listed next (suc most) at ≡ listed next most at
  enough zero zero few = refl
  enough zero (suc n) few = absurd (let h = few (omega arith) in omega (arith, h))
  enough (suc most) zero few = refl
  enough (suc most) (suc n) few =
      ap (λ (its : List ℕ). suc n ∷ its)
      (enough most (next_of next (suc n)) (λ low. let h = few (omega arith) in let down = lower (suc n) (next_of next (suc n)) (some_next (numbered next (suc n)) low) low in omega (arith, h, down)))

  pub rest_by : (at q : ℕ) → 0 < at → numbered next at ≡ Some q → rest next at ≡ at ∷ rest next q
  rest_by zero q some e = absurd (omega (arith, some))
  rest_by (suc n) q some e =
      let is : next_of next (suc n) ≡ q = ap (λ (o : Option ℕ). unwrap_or o 0) e in
      let few : 0 < q → place q < length next = λ low. let down = lower (suc n) q e low in let most = below_most rank (rank (suc n)) (length next) in omega (arith, down, most) in
      ap (λ (its : List ℕ). suc n ∷ its) (ap (listed next (length next)) is ∙ sym (enough (length next) q few))

  -- so fewer are left from the next on
  pub falls_by : (r q : ℕ) → numbered next r ≡ Some q → 0 < q → length (rest next q) < length (rest next r)
  falls_by zero q e some = absurd (let low = numbered_low next zero q e in omega (arith, low))
  falls_by (suc n) q e some = let is = ap length (rest_by (suc n) q (omega arith) e) in omega (arith, is)
