-- Numbers in rising order: those above a number, those of them that pass a test, and the first of these.
use Rattle.std.proofs.Common.{◌≡◌, ℕ, zero, suc, ◌+◌, ◌-◌, ◌<◌, ◌≤◌, Bool, true, false, cond, List, [], ◌∷◌, take, Some, find, filter, refl, sym, ap, ◌∙◌, arith}
use Rattle.std.specs.Prelude.{slice_get}
use Rattle.std.specs.List.{AllByRecursion}
use Rattle.office_records.specs.Lists.{numbers_after}

-- all of them are above c
abbrev pub AllAfter : ℕ → List ℕ → Type 0
AllAfter c rs = AllByRecursion (λ r. c < r) rs

AllAfter-less : (b c : ℕ) (rs : List ℕ) → b ≤ c → AllAfter c rs → AllAfter b rs
AllAfter-less b c [] h a = tt
AllAfter-less b c (r ∷ rs) h (m, a) = (omega arith, AllAfter-less b c rs h a)

pub AllAfter-filter : (p : ℕ → Bool) (c : ℕ) (rs : List ℕ) → AllAfter c rs → AllAfter c (filter p rs)
AllAfter-filter p c [] a = tt
AllAfter-filter p c (r ∷ rs) (m, a) =
    elim (p r) as (λ b. AllAfter c (cond b (r ∷ filter p rs) (filter p rs))) [ true ↦ (m, AllAfter-filter p c rs a) | false ↦ AllAfter-filter p c rs a ]

pub AllAfter-numbers : (c n : ℕ) → AllAfter c (numbers_after c n)
AllAfter-numbers c zero = tt
AllAfter-numbers c (suc n) = (omega arith, AllAfter-less c (suc c) (numbers_after (suc c) n) (omega arith) (AllAfter-numbers (suc c) n))

pub AllAfter-take : (c n : ℕ) (rs : List ℕ) → AllAfter c rs → AllAfter c (take n rs)
AllAfter-take c zero rs a = tt
AllAfter-take c (suc n) [] a = tt
AllAfter-take c (suc n) (r ∷ rs) (m, a) = (m, AllAfter-take c n rs a)

-- tests that agree above c keep the same numbers
pub filter_after : (p q : ℕ → Bool) (c : ℕ) (rs : List ℕ) → AllAfter c rs → ((r : ℕ) → c < r → p r ≡ q r) → filter p rs ≡ filter q rs
filter_after p q c [] a h = refl
filter_after p q c (r ∷ rs) (m, a) h = λ i. cond (h r m i) (r ∷ filter_after p q c rs a h i) (filter_after p q c rs a h i)

-- c is the first of the n numbers after from that passes, and rest are those after it
pub record IsFirst (p : ℕ → Bool) (from n c : ℕ) (rest : List ℕ) : Type 0 where
  pub above : from < c
  pub within : c ≤ from + n
  pub rest_is : filter p (numbers_after c (from + n - c)) ≡ rest

head_is : (x c : ℕ) (xs cs : List ℕ) → x ∷ xs ≡ c ∷ cs → (x ≡ c) × (xs ≡ cs)
head_is x c xs cs e = (cc, cc)

pub first_of_filter : (p : ℕ → Bool) (from n c : ℕ) (rest : List ℕ) → filter p (numbers_after from n) ≡ c ∷ rest → IsFirst p from n c rest
first_of_filter p from zero c rest e = absurd cc
first_of_filter p from (suc n) c rest e =
    elim (p (suc from)) as (λ b. cond b (suc from ∷ filter p (numbers_after (suc from) n)) (filter p (numbers_after (suc from) n)) ≡ c ∷ rest → IsFirst p from (suc n) c rest) [
      | true ↦ λ e. let h = head_is _ _ _ _ e in
          let same : suc from ≡ c = h.0 in
          let left : from + suc n - c ≡ n = omega arith in
          record {
            above = omega arith;
            within = omega arith;
            rest_is = ap (λ k. filter p (numbers_after c k)) left ∙ ap (λ k. filter p (numbers_after k n)) (sym same) ∙ h.1;
          }
      | false ↦ λ e. let f = first_of_filter p (suc from) n c rest e in
          let same : from + suc n - c ≡ suc from + n - c = omega arith in
          let a : suc from < c = f.above in
          let w : c ≤ suc from + n = f.within in
          record { above = omega arith; within = omega arith; rest_is = ap (λ k. filter p (numbers_after c k)) same ∙ f.rest_is }
    ] e

pub find-filter : (p : ℕ → Bool) (xs : List ℕ) → find p xs ≡ slice_get (filter p xs) 0
find-filter p [] = refl
find-filter p (x ∷ xs) = elim (p x) as (λ b. cond b (Some x) (find p xs) ≡ slice_get (cond b (x ∷ filter p xs) (filter p xs)) 0) [ true ↦ refl | false ↦ find-filter p xs ]
