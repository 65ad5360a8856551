-- The least of the holds that cover a record is there, and there is one where the record is held.
use Rattle.std.proofs.Common.{◌≡◌, ℕ, List, [], ◌∷◌, Bool, true, false, cond, ◌||◌, map, filter, slice_get, Option, Some, refl, sym, ap, ◌∙◌}
use Rattle.std.specs.Prelude.{IsSome}
use Rattle.std.specs.Option.{is_some}
use Rattle.std.specs.Ordering.{is_eq, eq_by_cmp}
use Rattle.std.specs.List.{list_any}
use Rattle.std.specs.Cmp.{tied_itself}
use Rattle.std.specs.Cmp.Lexicographic.{nat_list_cmp_total}
use Rattle.std.specs.FinMap.{get, entries, find, get-entries}
use Rattle.office_records.specs.Tree.{TreeState, code_cmp}
use Rattle.office_rules.specs.Holds.{HoldMap, HoldState, hold_covers, covers_in, held_in, is_held, least_covering}

abbrev first_passing : {V : Type 0} → (V → Bool) → List (List ℕ × V) → Option (List ℕ)
first_passing test es = slice_get (map (λ e. e.0) (filter (λ e. test e.1) es)) 0

abbrev first_by : {V : Type 0} → (V → Bool) → Bool → List ℕ × V → List (List ℕ × V) → Option (List ℕ)
first_by test b e es = slice_get (map (λ f. f.0) (cond b (e ∷ filter (λ f. test f.1) es) (filter (λ f. test f.1) es))) 0

found_later : {V : Type 0} (b : Bool) (v : V) (o : Option V) → IsSome o → IsSome (cond b (Some v) o)
found_later true v o h = refl
found_later false v o h = h

first_found_by : {V : Type 0} (test : V → Bool) (b : Bool) (e : List ℕ × V) (es : List (List ℕ × V)) (code : List ℕ) → first_by test b e es ≡ Some code → (first_passing test es ≡ Some code → IsSome (find code_cmp code es)) → IsSome (find code_cmp code (e ∷ es))
first_found_by test true e es code first later =
    let same : e.0 ≡ code = cc in
    ap (λ k. is_some (find code_cmp k (e ∷ es))) (sym same) ∙ ap (λ t. is_some (cond (is_eq t) (Some e.1) (find code_cmp e.0 es))) (tied_itself nat_list_cmp_total e.0)
first_found_by test false e es code first later = found_later (eq_by_cmp code_cmp code e.0) e.1 (find code_cmp code es) (later first)

-- the code of the first that passes is found
first_found : {V : Type 0} (test : V → Bool) (es : List (List ℕ × V)) (code : List ℕ) → first_passing test es ≡ Some code → IsSome (find code_cmp code es)
first_found test [] code first = absurd cc
first_found test (e ∷ es) code first = first_found_by test (test e.1) e es code first (first_found test es code)

any_first_by : {V : Type 0} (test : V → Bool) (b : Bool) (e : List ℕ × V) (es : List (List ℕ × V)) → (b || list_any test (map (λ f. f.1) es)) ≡ true → (list_any test (map (λ f. f.1) es) ≡ true → IsSome (first_passing test es)) → IsSome (first_by test b e es)
any_first_by test true e es any later = refl
any_first_by test false e es any later = later any

-- where one passes there is a first that does
any_first : {V : Type 0} (test : V → Bool) (es : List (List ℕ × V)) → list_any test (map (λ e. e.1) es) ≡ true → IsSome (first_passing test es)
any_first test [] any = absurd cc
any_first test (e ∷ es) any = any_first_by test (test e.1) e es any (any_first test es)

covering_found : (holds : HoldMap) (r : ℕ) (containers : List ℕ) (class : Option (List ℕ)) (code : List ℕ) → slice_get (covers_in holds r containers class) 0 ≡ Some code → IsSome (get holds code)
unfolding covers_in
covering_found holds r containers class code first =
    ap is_some (get-entries holds code) ∙ first_found (λ (hold : HoldState). hold_covers hold r containers class) (entries holds) code first

held_covering : (holds : HoldMap) (r : ℕ) (containers : List ℕ) (class : Option (List ℕ)) → held_in holds r containers class ≡ true → IsSome (slice_get (covers_in holds r containers class) 0)
unfolding covers_in held_in
held_covering holds r containers class held = any_first (λ (hold : HoldState). hold_covers hold r containers class) (entries holds) held

pub least_is_there : (holds : HoldMap) (tree : TreeState) (r : ℕ) (code : List ℕ) → least_covering holds tree r ≡ Some code → IsSome (get holds code)
least_is_there holds tree r code first = covering_found holds r _ _ code first

pub held_has_least : (holds : HoldMap) (tree : TreeState) (r : ℕ) → is_held holds tree r ≡ true → IsSome (least_covering holds tree r)
held_has_least holds tree r held = held_covering holds r _ _ held
