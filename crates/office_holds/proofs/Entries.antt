-- The entries of a map of codes are in the order of their codes, and what is found at a code is an entry.
use Rattle.std.proofs.Common.{◌≡◌, ◌≢◌, ◌↔◌, ℕ, List, [], ◌∷◌, Bool, true, false, cond, ◌&&◌, ◌||◌, map, filter, slice_get, Option, Some, None, refl, sym, ap, subst, ◌∙◌, true≢false}
use Rattle.std.specs.Prelude.{T}
use Rattle.std.specs.declared.cmp.Ordering.{Ordering}
use Rattle.std.specs.declared.cmp.Ordering.TheVariants.{Less, Equal, Greater}
use Rattle.std.specs.Ordering.{is_eq, is_lt, eq_by_cmp}
use Rattle.std.specs.Cmp.{Equal-is, alike_right, tied_itself, tied_back, eq_by_cmp_equiv}
use Rattle.std.specs.Cmp.Lexicographic.{nat_list_cmp_total}
use Rattle.std.specs.List.{list_any, AllByRecursion}
use Rattle.std.specs.FinMap.{FinMap, entries, entries_sorted}
use Rattle.std.specs.FinMap.Entries.{find, below_all, is_sorted}
use Rattle.office_records.specs.Tree.{code_cmp}

-- each code is before those of the entries after it
abbrev pub Rises : {V : Type 0} → List (List ℕ × V) → Type 0
Rises [] = Unit {0}
Rises (e ∷ es) = AllByRecursion (λ f. code_cmp e.0 f.0 ≡ Less) es × Rises es

parts : (a b : Bool) → T (a && b) → T a × T b
parts true b h = (tt, h)
parts false b h = absurd h

less : (o : Ordering) → T (is_lt o) → o ≡ Less
less Less h = refl
less Equal h = absurd h
less Greater h = absurd h

below_each : {V : Type 0} (k : List ℕ) (es : List (List ℕ × V)) → T (below_all code_cmp k es) → AllByRecursion (λ f. code_cmp k f.0 ≡ Less) es
below_each k [] h = tt
below_each k (e ∷ es) h = let p = parts (is_lt (code_cmp k e.0)) (below_all code_cmp k es) h in (less (code_cmp k e.0) p.0, below_each k es p.1)

rises_sorted : {V : Type 0} (es : List (List ℕ × V)) → T (is_sorted code_cmp es) → Rises es
rises_sorted [] h = tt
rises_sorted (e ∷ es) h = let p = parts (below_all code_cmp e.0 es) (is_sorted code_cmp es) h in (below_each e.0 es p.0, rises_sorted es p.1)

pub entries_rise : {V : Type 0} (m : FinMap code_cmp V) → Rises (entries m)
entries_rise m = rises_sorted (entries m) (entries_sorted m)

-- ---- what is found

-- it is found here, or later
found_next : {V : Type 0} (q : List ℕ) (e : List ℕ × V) (es : List (List ℕ × V)) (v : V) (P : Type 0) → find code_cmp q (e ∷ es) ≡ Some v → (code_cmp q e.0 ≡ Equal → e.1 ≡ v → P) → (find code_cmp q es ≡ Some v → P) → P
found_next {V} q e es v P found here later = by_tie (eq_by_cmp code_cmp q e.0) refl found
  where
    by_tie : (b : Bool) → eq_by_cmp code_cmp q e.0 ≡ b → cond b (Some e.1) (find code_cmp q es) ≡ Some v → P
    by_tie true tie is = here ((Equal-is (code_cmp q e.0)).0 tie) cc
    by_tie false tie is = later is

-- what is found among entries after a code has a later code
pub found_after : {V : Type 0} (k q : List ℕ) (v : V) (es : List (List ℕ × V)) → AllByRecursion (λ f. code_cmp k f.0 ≡ Less) es → find code_cmp q es ≡ Some v → code_cmp k q ≡ Less
found_after k q v [] after found = absurd cc
found_after k q v (e ∷ es) after found =
    found_next q e es v (code_cmp k q ≡ Less) found (λ tie _. alike_right nat_list_cmp_total q e.0 k tie ∙ after.0) (found_after k q v es after.1)

found_here : {V : Type 0} (e : List ℕ × V) (es : List (List ℕ × V)) → find code_cmp e.0 (e ∷ es) ≡ Some e.1
found_here e es = ap (λ o. cond (is_eq o) (Some e.1) (find code_cmp e.0 es)) (tied_itself nat_list_cmp_total e.0)

-- what is found after the first entry is found with it
found_later : {V : Type 0} (q : List ℕ) (v : V) (e : List ℕ × V) (es : List (List ℕ × V)) → Rises (e ∷ es) → find code_cmp q es ≡ Some v → find code_cmp q (e ∷ es) ≡ Some v
found_later q v e es rises found =
    let apart = (eq_by_cmp_equiv nat_list_cmp_total).symm q e.0 ∙ ap is_eq (found_after e.0 q v es rises.0 found) in
    ap (λ b. cond b (Some e.1) (find code_cmp q es)) apart ∙ found

-- ---- an entry whose value passes a test

-- a value that passes, with its code
abbrev pub Passes : {V : Type 0} → (V → Bool) → List (List ℕ × V) → List ℕ → Type 0
Passes {V} test es q = (v : V) × (find code_cmp q es ≡ Some v) × (test v ≡ true)

later_passes : {V : Type 0} (test : V → Bool) (e : List ℕ × V) (es : List (List ℕ × V)) (q : List ℕ) → Rises (e ∷ es) → Passes test es q → Passes test (e ∷ es) q
later_passes test e es q rises (v, found, passes) = (v, found_later q v e es rises found, passes)

any_passes_by : {V : Type 0} (test : V → Bool) (e : List ℕ × V) (es : List (List ℕ × V)) (b : Bool) → Rises (e ∷ es) → test e.1 ≡ b → (b || list_any test (map (λ f. f.1) es)) ≡ true
    → (list_any test (map (λ f. f.1) es) ≡ true → (q : List ℕ) × Passes test es q) → (q : List ℕ) × Passes test (e ∷ es) q
any_passes_by test e es true rises is any rest = (e.0, (e.1, found_here e es, is))
any_passes_by test e es false rises is any rest = let later = rest any in (later.0, later_passes test e es later.0 rises later.1)

-- where some value passes, one that is found does
pub any_passes : {V : Type 0} (test : V → Bool) (es : List (List ℕ × V)) → Rises es → list_any test (map (λ e. e.1) es) ≡ true → (q : List ℕ) × Passes test es q
any_passes test [] rises any = absurd cc
any_passes test (e ∷ es) rises any = any_passes_by test e es (test e.1) rises refl any (any_passes test es rises.1)

or_right : (b c : Bool) → c ≡ true → (b || c) ≡ true
or_right true c e = refl
or_right false c e = e

-- and where one that is found passes, some value does
pub passes_any : {V : Type 0} (test : V → Bool) (es : List (List ℕ × V)) (q : List ℕ) → Passes test es q → list_any test (map (λ e. e.1) es) ≡ true
passes_any test [] q (v, found, passes) = absurd cc
passes_any test (e ∷ es) q (v, found, passes) =
    found_next q e es v (list_any test (map (λ f. f.1) (e ∷ es)) ≡ true) found
    (λ _ same. ap (λ b. b || list_any test (map (λ f. f.1) es)) (ap test same ∙ passes))
    (λ later. or_right (test e.1) (list_any test (map (λ f. f.1) es)) (passes_any test es q (v, later, passes)))

-- ---- the first of those that pass

abbrev pub first_passing : {V : Type 0} → (V → Bool) → List (List ℕ × V) → Option (List ℕ)
first_passing test es = slice_get (map (λ e. e.0) (filter (λ e. test e.1) es)) 0

-- its value passes, and none that passes has a code before it
abbrev pub IsLeastPassing : {V : Type 0} → (V → Bool) → List (List ℕ × V) → List ℕ → Type 0
IsLeastPassing test es code = Passes test es code × ((q : List ℕ) → Passes test es q → code_cmp code q ≢ Greater)

abbrev first_by : {V : Type 0} → (V → Bool) → Bool → List ℕ × V → List (List ℕ × V) → Option (List ℕ)
first_by test b e es = slice_get (map (λ f. f.0) (cond b (e ∷ filter (λ f. test f.1) es) (filter (λ f. test f.1) es))) 0

pub not_after : (o : Ordering) → o ≡ Equal → o ≢ Greater
not_after o same after = absurd cc

pub not_after_less : (o : Ordering) → o ≡ Less → o ≢ Greater
not_after_less o before after = absurd cc

first_least_by : {V : Type 0} (test : V → Bool) (e : List ℕ × V) (es : List (List ℕ × V)) (code : List ℕ) (b : Bool) → Rises (e ∷ es) → test e.1 ≡ b → first_by test b e es ≡ Some code
    → (first_passing test es ≡ Some code → IsLeastPassing test es code) → IsLeastPassing test (e ∷ es) code
first_least_by test e es code true rises is first rest =
    let same : e.0 ≡ code = cc in (
      subst (λ q. Passes test (e ∷ es) q) same (e.1, found_here e es, is),
      λ q (v, found, passes). subst (λ k. code_cmp k q ≢ Greater) same
          (found_next q e es v (code_cmp e.0 q ≢ Greater) found (λ tie _. not_after (code_cmp e.0 q) (tied_back nat_list_cmp_total q e.0 tie)) (λ later. not_after_less (code_cmp e.0 q) (found_after e.0 q v es rises.0 later))),
    )
first_least_by test e es code false rises is first rest =
    let least = rest first in (
      later_passes test e es code rises least.0,
      λ q (v, found, passes). found_next q e es v (code_cmp code q ≢ Greater) found (λ _ same. absurd (true≢false (sym passes ∙ ap test (sym same) ∙ is))) (λ later. least.1 q (v, later, passes)),
    )

pub first_least : {V : Type 0} (test : V → Bool) (es : List (List ℕ × V)) (code : List ℕ) → Rises es → first_passing test es ≡ Some code → IsLeastPassing test es code
first_least test [] code rises first = absurd cc
first_least test (e ∷ es) code rises first = first_least_by test e es code (test e.1) rises refl first (first_least test es code rises.1)

none_passes_by : {V : Type 0} (test : V → Bool) (e : List ℕ × V) (es : List (List ℕ × V)) (b : Bool) → ((first_passing test es ≡ None) ↔ (list_any test (map (λ f. f.1) es) ≡ false))
    → ((first_by test b e es ≡ None) ↔ ((b || list_any test (map (λ f. f.1) es)) ≡ false))
none_passes_by test e es true rest = (λ none. absurd cc, λ none. absurd cc)
none_passes_by test e es false rest = rest

-- there is no first exactly where no value passes
pub none_passes : {V : Type 0} (test : V → Bool) (es : List (List ℕ × V)) → ((first_passing test es ≡ None) ↔ (list_any test (map (λ e. e.1) es) ≡ false))
none_passes test [] = (λ _. refl, λ _. refl)
none_passes test (e ∷ es) = none_passes_by test e es (test e.1) (none_passes test es)
