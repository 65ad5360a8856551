-- What the tests of the places of aggregations and of their depths report.
use Rattle.std.proofs.Common.{◌≡◌, ◌≢◌, ℕ, zero, suc, ◌-◌, ◌<◌, ◌≤◌, List, [], ◌∷◌, length, Option, Some, None, refl, sym, ap, ◌∙◌, Bool, true, false, arith, ℤ}
use Rattle.std.specs.Prelude.{slice_get, IsSome, nat_le, nat_lt, ◌&&◌, ◌||◌}
use Rattle.std.specs.Option.{is_some, is_none, option_and_then, MatchOption}
use Rattle.std.proofs.lemmas.Bool.Decides.{nat_tests}
use Rattle.office_records.specs.Loading.{is_placed}
use Rattle.office_records.specs.Lists.{numbered, is_some_and}
use Rattle.office_records.specs.Sound.{NoneIsOpenUnderClosed, RootsHaveClasses}
use Rattle.office_records.specs.Tree.{chain, chain_of}
use Rattle.office_records.specs.declared.aggregation.Aggregation.{Aggregation}
use Rattle.office_records.proofs.Places.{numbered_at, numbered_within}
use Rattle.office_records.proofs.Walk.{ArePlaced, chain_begins, up_from, up_none, up_step}

-- at each place up to the length there is something
pub numbered_there : {A : Type 0} (xs : List A) (i : ℕ) → i < length xs → (x : A) × (slice_get xs i ≡ Some x)
numbered_there [] i h = absurd (omega arith)
numbered_there (x ∷ xs) zero h = (x, refl)
numbered_there (x ∷ xs) (suc i) h = numbered_there xs i (omega arith)

nothing_there : {A : Type 0} (xs : List A) (i : ℕ) → length xs ≤ i → slice_get xs i ≡ None
nothing_there [] i h = refl
nothing_there (x ∷ xs) zero h = absurd (omega arith)
nothing_there (x ∷ xs) (suc i) h = nothing_there xs i (omega arith)

-- ---- places

-- each aggregation passes
abbrev pub AllPass : List Aggregation → Type 0
AllPass aggregations = (a : ℕ) (it : Aggregation) → numbered aggregations a ≡ Some it → is_placed aggregations a it it.parent ≡ true

-- a parent's number is below its child's
abbrev pub AreBelow : List Aggregation → Type 0
AreBelow aggregations = (a p : ℕ) (it : Aggregation) → numbered aggregations a ≡ Some it → it.parent ≡ Some p → (0 < p) × (p < a)

and_3 : (a b c : Bool) → (a && b && c) ≡ true → (a ≡ true) × (b ≡ true) × (c ≡ true)
and_3 true true c e = (refl, refl, e)
and_3 true false c e = absurd cc
and_3 false b c e = absurd cc

all_3 : (a b c : Bool) → a ≡ true → b ≡ true → c ≡ true → (a && b && c) ≡ true
all_3 true true c p q r = r
all_3 true false c p q r = absurd cc
all_3 false b c p q r = absurd cc

parts : (aggregations : List Aggregation) → AllPass aggregations → (a p : ℕ) (it : Aggregation) → numbered aggregations a ≡ Some it → it.parent ≡ Some p
    → (nat_le 1 p ≡ true) × (nat_lt p a ≡ true) × ((is_some it.closed || is_some_and (numbered aggregations p) (λ parent. is_none parent.closed)) ≡ true)
parts aggregations pass a p it e up =
    and_3 (nat_le 1 p) (nat_lt p a) (is_some it.closed || is_some_and (numbered aggregations p) (λ parent. is_none parent.closed)) (ap (is_placed aggregations a it) (sym up) ∙ pass a it e)

above_zero : (p : ℕ) → nat_le 1 p ≡ true → 0 < p
above_zero p e = grind (arith, nat_tests)

less_of : (p a : ℕ) → nat_lt p a ≡ true → p < a
less_of p a e = grind (arith, nat_tests)

to_above_zero : (p : ℕ) → 0 < p → nat_le 1 p ≡ true
to_above_zero p e = grind (arith, nat_tests)

to_less : (p a : ℕ) → p < a → nat_lt p a ≡ true
to_less p a e = grind (arith, nat_tests)

pub below_of : (aggregations : List Aggregation) → AllPass aggregations → AreBelow aggregations
below_of aggregations pass a p it e up = let w = parts aggregations pass a p it e up in (above_zero p w.0, less_of p a w.1)

none_some : (o : Option ℤ) → is_none o ≡ true → is_some o ≡ false
none_some None e = refl
none_some (Some x) e = absurd cc

some_none : (o : Option ℤ) → is_some o ≡ false → is_none o ≡ true
some_none None e = refl
some_none (Some x) e = absurd cc

open_under : (closed : Bool) (o : Option Aggregation) (parent : Aggregation) → (closed || is_some_and o (λ parent. is_none parent.closed)) ≡ true → closed ≡ false → o ≡ Some parent → is_some parent.closed ≡ false
open_under true o parent e is there = absurd cc
open_under false o parent e is there = none_some parent.closed (ap (λ o. is_some_and o (λ parent. is_none parent.closed)) (sym there) ∙ e)

pub closed_of : (aggregations : List Aggregation) → AllPass aggregations → NoneIsOpenUnderClosed aggregations
closed_of aggregations pass a p it parent e up there free =
    open_under (is_some it.closed) (numbered aggregations p) parent (parts aggregations pass a p it e up).2 free there

covered : (closed other : Bool) → (closed ≡ false → other ≡ true) → (closed || other) ≡ true
covered true other h = refl
covered false other h = h refl

one_passes : (aggregations : List Aggregation) → AreBelow aggregations → NoneIsOpenUnderClosed aggregations → (a : ℕ) (it : Aggregation) (o : Option ℕ) → it.parent ≡ o → numbered aggregations a ≡ Some it → is_placed aggregations a it o ≡ true
one_passes aggregations below closed a it None up e = refl
one_passes aggregations below closed a it (Some p) up e =
    let low = below a p it e up in
    let within = numbered_within aggregations a it e in
    let there = numbered_there aggregations (p - 1) (omega (arith, low.0, low.1, within.1)) in
    let at = numbered_at aggregations p (p - 1) (omega (arith, low.0)) ∙ there.1 in
    all_3 (nat_le 1 p) (nat_lt p a) (is_some it.closed || is_some_and (numbered aggregations p) (λ parent. is_none parent.closed)) (to_above_zero p low.0) (to_less p a low.1)
    (covered (is_some it.closed) (is_some_and (numbered aggregations p) (λ parent. is_none parent.closed))
    (λ free. ap (λ o. is_some_and o (λ (parent : Aggregation). is_none parent.closed)) at ∙ some_none there.0.closed (closed a p it there.0 e up at free)))

pub all_pass : (aggregations : List Aggregation) → AreBelow aggregations → NoneIsOpenUnderClosed aggregations → AllPass aggregations
all_pass aggregations below closed a it e = one_passes aggregations below closed a it it.parent refl e

-- ---- depths

place : (a : ℕ) (it : Aggregation) (parent : Option ℕ) → (parent ≡ None → IsSome it.class) → ((p : ℕ) → parent ≡ Some p → (0 < p) × (p < a)) → MatchOption parent (IsSome it.class) (λ p. (0 < p) × (p < a))
place a it None root low = root refl
place a it (Some p) root low = low p refl

pub are_well_placed : (aggregations : List Aggregation) → AreBelow aggregations → RootsHaveClasses aggregations → ArePlaced aggregations
are_well_placed aggregations below roots a it e = place a it it.parent (roots a it e) (λ p up. below a p it e up)

one_less : (n k : ℕ) → k ≢ 0 → nat_le n (k - 1) ≡ nat_le (suc n) k
one_less n zero h = absurd (h refl)
one_less n (suc k) h = grind (arith, nat_tests)

-- a step up
pub low_step : (aggregations : List Aggregation) → AreBelow aggregations → RootsHaveClasses aggregations → (a k : ℕ) (it : Aggregation) → 0 < a → numbered aggregations a ≡ Some it → k ≢ 0
    → nat_le (length (up_from aggregations it.parent)) (k - 1) ≡ nat_le (length (up_from aggregations (Some a))) k
low_step aggregations below roots a k it low e some =
    one_less (length (up_from aggregations it.parent)) k some ∙ ap (λ xs. nat_le (length xs) k) (sym (up_step aggregations (are_well_placed aggregations below roots) a it low e))

too_many : (n : ℕ) → false ≡ nat_le (suc n) 0
too_many n = grind (arith, nat_tests)

nothing_fits : (k : ℕ) → true ≡ nat_le 0 k
nothing_fits k = grind (arith, nat_tests)

-- nothing is above
pub low_none : (aggregations : List Aggregation) (next : Option ℕ) (k : ℕ) → next ≡ None → true ≡ nat_le (length (up_from aggregations next)) k
low_none aggregations next k e = nothing_fits k ∙ ap (λ xs. nat_le (length xs) k) (sym (up_none aggregations next e))

-- no step is left
pub not_low : (aggregations : List Aggregation) (a k : ℕ) → 0 < a → k ≡ 0 → false ≡ nat_le (length (up_from aggregations (Some a))) k
not_low aggregations a k low e =
    let up = chain_begins aggregations a low in
    too_many (length up.0) ∙ ap (λ xs. nat_le (length xs) 0) (sym up.1) ∙ ap (nat_le (length (up_from aggregations (Some a)))) (sym e)

-- what is not there is not deep
pub low_beyond : (aggregations : List Aggregation) (a : ℕ) → length aggregations < a → length (chain_of aggregations a) ≤ 8
unfolding chain
low_beyond aggregations zero h = absurd (omega arith)
low_beyond aggregations (suc k) h =
    let e = ap (λ o. length (suc k ∷ chain aggregations k (option_and_then (λ (it : Aggregation). it.parent) o))) (nothing_there aggregations k (omega arith)) in
    omega (arith, e)

pub low_zero : (aggregations : List Aggregation) (a : ℕ) → a ≤ 0 → length (chain_of aggregations a) ≤ 8
unfolding chain
low_zero aggregations zero h = omega arith
low_zero aggregations (suc k) h = absurd (omega arith)
