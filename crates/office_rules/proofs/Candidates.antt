-- The candidates of a run are the ready records above its cursor, by number, and the next is the first of them.
use Rattle.std.proofs.Common.{◌≡◌, ◌↔◌, ℕ, zero, suc, ◌+◌, ◌-◌, ◌<◌, ◌≤◌, Bool, true, false, cond, List, [], ◌∷◌, length, Some, None, Contains, Less, filter, nat_cmp, slice_get, slice_index_or, sym, ap, ◌∙◌, subst, arith, inl, inr}
use Rattle.std.proofs.lemmas.Bool.{cases_lt}
use Rattle.std.proofs.lemmas.Bool.Decides.{nat_tests}
use Rattle.std.specs.Cmp.{nat_cmp_is}
use Rattle.std.specs.List.{AllByRecursion}
use Rattle.std.specs.List.Sorted.{IsStrictlySortedBy}
use Rattle.std.proofs.lemmas.List.Elements.{All-contains, All-filter, All-from_recursion, filter_passes}
use Rattle.std.proofs.lemmas.List.Kept.{IsStrictlySortedBy-filter}
use Rattle.office_records.specs.Lists.{numbers_after}
use Rattle.office_rules.specs.Disposing.{is_ready}
use Rattle.office_rules.specs.Meanings.{IsCandidate}
use Rattle.office_rules.specs.Runs.{candidates, above_cursor, cursor_of, next_ready, run_day}
use Rattle.office_rules.specs.State.{Office}
use Rattle.office_rules.proofs.OneStep.{next_is}
use Rattle.office_rules.proofs.Rising.{AllAfter, AllAfter-numbers}

-- ---- the numbers after a number

abbrev pub IsAmong : ℕ → ℕ → ℕ → Type 0
IsAmong from n r = (from < r) × (r ≤ from + n)

among_more : (from n : ℕ) (rs : List ℕ) → AllByRecursion (IsAmong (suc from) n) rs → AllByRecursion (IsAmong from (suc n)) rs
among_more from n [] a = tt
among_more from n (r ∷ rs) ((low, high), a) = ((omega arith, omega arith), among_more from n rs a)

numbers_among : (from n : ℕ) → AllByRecursion (IsAmong from n) (numbers_after from n)
numbers_among from zero = tt
numbers_among from (suc n) = ((omega arith, omega arith), among_more from n (numbers_after (suc from) n) (numbers_among (suc from) n))

number_there : (from n r : ℕ) → from < r → r ≤ from + n → Contains (numbers_after from n) r
number_there from zero r low high = absurd (omega arith)
number_there from (suc n) r low high = elim (cases_lt (suc from) r) [
  | inl later ↦ let found = number_there (suc from) n r later (omega arith) in (suc found.0, omega (arith, found.1), found.2)
  | inr first ↦ let same : suc from ≡ r = omega arith in (0, omega arith, same)
]

less_after : (c : ℕ) (rs : List ℕ) → AllAfter c rs → AllByRecursion (λ r. nat_cmp c r ≡ Less) rs
less_after c [] a = tt
less_after c (r ∷ rs) (m, a) = (sym (nat_cmp_is c r Less m), less_after c rs a)

numbers_rise : (from n : ℕ) → IsStrictlySortedBy nat_cmp (numbers_after from n)
unfolding IsStrictlySortedBy
numbers_rise from zero = tt
numbers_rise from (suc n) = (less_after (suc from) (numbers_after (suc from) n) (AllAfter-numbers (suc from) n), numbers_rise (suc from) n)

-- ---- what passes a test

one_more : (b : Bool) (x y : ℕ) (xs : List ℕ) → Contains xs y → Contains (cond b (x ∷ xs) xs) y
one_more true x y xs (k, h, e) = (suc k, omega arith, e)
one_more false x y xs c = c

-- what is there and passes is among those that pass
passing_at : (p : ℕ → Bool) (y : ℕ) → p y ≡ true → (xs : List ℕ) (k : ℕ) → k < length xs → slice_index_or xs k y ≡ y → Contains (filter p xs) y
passing_at p y t [] k h e = absurd (omega arith)
passing_at p y t (x ∷ xs) zero h e = let passes : p x ≡ true = ap p e ∙ t in subst (λ b. Contains (cond b (x ∷ filter p xs) (filter p xs)) y) (sym passes) (0, omega arith, e)
passing_at p y t (x ∷ xs) (suc k) h e = one_more (p x) x y (filter p xs) (passing_at p y t xs k (omega arith) e)

-- ---- the candidates

candidate_there : (s : Office) (run r : ℕ) → Contains (candidates s run) r → IsCandidate s run r
unfolding candidates
candidate_there s run r c =
    let from : ℕ = cursor_of s run in
    let n : ℕ = length s.tree.records - from in
    let test : ℕ → Bool = is_ready s (run_day s run) in
    let among : IsAmong from n r = All-contains (IsAmong from n) (candidates s run) r (All-filter test (IsAmong from n) (numbers_after from n) (All-from_recursion (IsAmong from n) (numbers_after from n) (numbers_among from n))) c in
    record { above = among.0; there = omega (arith, among.0, among.1); ready = All-contains (λ x. test x ≡ true) (candidates s run) r (filter_passes test (numbers_after from n)) c }

there_candidate : (s : Office) (run r : ℕ) → IsCandidate s run r → Contains (candidates s run) r
unfolding candidates
there_candidate s run r is =
    let from : ℕ = cursor_of s run in
    let n : ℕ = length s.tree.records - from in
    let low : from < r = is.above in
    let high : r ≤ length s.tree.records = is.there in
    let at = number_there from n r low (omega arith) in
    passing_at (is_ready s (run_day s run)) r is.ready (numbers_after from n) at.0 at.1 at.2

pub candidates_are : (s : Office) (run r : ℕ) → (Contains (candidates s run) r ↔ IsCandidate s run r)
candidates_are s run r = (candidate_there s run r, there_candidate s run r)

pub candidates_rise : (s : Office) (run : ℕ) → IsStrictlySortedBy nat_cmp (candidates s run)
unfolding candidates
candidates_rise s run = IsStrictlySortedBy-filter nat_cmp (is_ready s (run_day s run)) (above_cursor s run) (numbers_rise (cursor_of s run) (length s.tree.records - cursor_of s run))

-- ---- the next of them

first_there : (xs : List ℕ) (r : ℕ) → slice_get xs 0 ≡ Some r → Contains xs r
first_there [] r e = absurd cc
first_there (x ∷ xs) r e = (0, omega arith, cc)

first_least : (xs : List ℕ) (r other : ℕ) → IsStrictlySortedBy nat_cmp xs → slice_get xs 0 ≡ Some r → Contains xs other → r ≤ other
unfolding IsStrictlySortedBy
first_least [] r other rise e (k, h, at) = absurd (omega arith)
first_least (x ∷ xs) r other rise e (zero, h, at) = let same : x ≡ r = cc in omega arith
first_least (x ∷ xs) r other rise e (suc k, h, at) =
    let same : x ≡ r = cc in
    let less : nat_cmp x other ≡ Less = All-contains (λ y. nat_cmp x y ≡ Less) xs other (All-from_recursion (λ y. nat_cmp x y ≡ Less) xs rise.0) (k, omega arith, at) in
    grind (arith, nat_tests, same, less)

first_none : (xs : List ℕ) (r : ℕ) → slice_get xs 0 ≡ None → Contains xs r → ⊥
first_none [] r e (k, h, at) = omega arith
first_none (x ∷ xs) r e c = absurd cc

pub next_is_candidate : (s : Office) (run r : ℕ) → next_ready s run ≡ Some r → IsCandidate s run r
next_is_candidate s run r e = candidate_there s run r (first_there (candidates s run) r (sym (next_is s run) ∙ e))

pub next_is_least : (s : Office) (run r other : ℕ) → next_ready s run ≡ Some r → IsCandidate s run other → r ≤ other
next_is_least s run r other e is = first_least (candidates s run) r other (candidates_rise s run) (sym (next_is s run) ∙ e) (there_candidate s run other is)

pub none_is_candidate : (s : Office) (run r : ℕ) → next_ready s run ≡ None → IsCandidate s run r → ⊥
none_is_candidate s run r e is = first_none (candidates s run) r (sym (next_is s run) ∙ e) (there_candidate s run r is)
