-- The plan of a record, by what the maps of schedules and classes give.
use Rattle.std.proofs.Common.{◌≡◌, ℕ, List, [], ◌∷◌, Option, Some, None, refl, ap, sym, ◌∙◌, cond, true}
use Rattle.std.specs.Option.{is_some, option_and_then, option_map}
use Rattle.std.proofs.lemmas.Bool.{false≢true}
use Rattle.std.specs.Cmp.Lexicographic.{nat_list_cmp_total}
use Rattle.std.specs.Map.{lookup}
use Rattle.std.specs.BTreeMap.{is_at}
use Rattle.std.specs.FinMap.{FinMap, get, contains_key, from_entries, find, get-from_entries}
use Rattle.office_records.specs.Lists.{numbered, or_else}
use Rattle.office_records.specs.Tree.{code_cmp, class_in, plan_in}
use Rattle.office_records.specs.declared.class.Class.{Class}
use Rattle.office_records.specs.declared.aggregation.Aggregation.{Aggregation}
use Rattle.office_records.specs.declared.head.Record.{Record}

find_is : {V : Type 0} (es : List (List ℕ × V)) (q : List ℕ) → find code_cmp q es ≡ lookup (is_at (code_cmp q)) es
find_is [] q = refl
find_is (e ∷ es) q = ap (cond (is_at (code_cmp q) e.0) (Some e.1)) (find_is es q)

-- what the map of the entries has at a code is what a look-up finds
pub get_is : {V : Type 0} (es : List (List ℕ × V)) (q : List ℕ) → get (from_entries {R = code_cmp} es) q ≡ lookup (is_at (code_cmp q)) es
get_is es q = get-from_entries nat_list_cmp_total es q ∙ find_is es q

-- whether the map of the entries has a code is whether a look-up finds it
pub contains_is : {V : Type 0} (es : List (List ℕ × V)) (q : List ℕ) → contains_key (from_entries {R = code_cmp} es) q ≡ is_some (lookup (is_at (code_cmp q)) es)
contains_is es q = ap is_some (get_is es q)

-- a code that a look-up does not find is not one that the map has
pub not_contained : {V : Type 0} (es : List (List ℕ × V)) (q : List ℕ) → lookup (is_at (code_cmp q)) es ≡ None → contains_key (from_entries {R = code_cmp} es) q ≡ true → ⊥
not_contained es q absent there = false≢true (sym (ap is_some absent) ∙ sym (contains_is es q) ∙ there)

pub plan_own : (classes : FinMap code_cmp Class) (aggregations : List Aggregation) (records : List Record) (r : ℕ) (head : Record) (code : List ℕ) → numbered records r ≡ Some head → head.schedule ≡ Some code → plan_in classes aggregations records r ≡ Some code
unfolding plan_in
plan_own classes aggregations records r head code e own =
    let rest : Option (List ℕ) = option_and_then (λ (code : List ℕ). option_map (λ (class : Class). class.schedule) (get classes code)) (class_in aggregations records r) in
    ap (λ o. or_else (option_and_then (λ (x : Record). x.schedule) o) rest) e ∙ ap (λ o. or_else o rest) own

pub plan_class : (classes : FinMap code_cmp Class) (aggregations : List Aggregation) (records : List Record) (r : ℕ) (head : Record) (code : List ℕ) (class : Option Class) → numbered records r ≡ Some head → head.schedule ≡ None → class_in aggregations records r ≡ Some code → get classes code ≡ class → plan_in classes aggregations records r ≡ option_map (λ (class : Class). class.schedule) class
unfolding plan_in
plan_class classes aggregations records r head code class e own of there =
    let from : Option (List ℕ) → Option (List ℕ) = λ c. option_and_then (λ (code : List ℕ). option_map (λ (class : Class). class.schedule) (get classes code)) c in
    ap (λ o. or_else (option_and_then (λ (x : Record). x.schedule) o) (from (class_in aggregations records r))) e
    ∙ ap (λ o. or_else o (from (class_in aggregations records r))) own
    ∙ ap from of ∙ ap (option_map (λ (class : Class). class.schedule)) there
