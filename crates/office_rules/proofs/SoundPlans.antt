-- In a sound office each record that is there has a class and a plan, which are there.
use Rattle.std.proofs.Common.{◌≡◌, ℕ, zero, suc, ◌<◌, ◌≤◌, List, [], ◌∷◌, length, Option, Some, None, refl, sym, ap, ◌∙◌, arith}
use Rattle.std.specs.Prelude.{slice_get, IsSome}
use Rattle.std.specs.Option.{is_some}
use Rattle.std.specs.FinMap.{FinMap, get}
use Rattle.office_records.specs.Lists.{numbered}
use Rattle.office_records.specs.Sound.{IsForest, NamesExist, Names}
use Rattle.office_records.specs.Tree.{TreeState, code_cmp, aggregation_class_in, class_of, plan_of}
use Rattle.office_records.specs.declared.aggregation.Aggregation.{Aggregation}
use Rattle.office_records.specs.declared.head.Record.{Record}
use Rattle.office_records.proofs.Plan.{plan_own, plan_class}
use Rattle.office_records.proofs.Walk.{ArePlaced, placed_in, placed_parent, placed_root, walk_here, walk_on, class_own, class_above}
use Rattle.office_rules.proofs.SoundMaps.{some_is}

numbered_there_at : {A : Type 0} (xs : List A) (i : ℕ) → i < length xs → (x : A) × (slice_get xs i ≡ Some x)
numbered_there_at [] i h = absurd (omega arith)
numbered_there_at (x ∷ xs) zero h = (x, refl)
numbered_there_at (x ∷ xs) (suc i) h = numbered_there_at xs i (omega arith)

-- a number within the list is there
pub numbered_there : {A : Type 0} (xs : List A) (n : ℕ) → 0 < n → n ≤ length xs → (x : A) × (numbered xs n ≡ Some x)
numbered_there xs zero low high = absurd (omega arith)
numbered_there xs (suc n) low high = numbered_there_at xs n (omega arith)

-- a code that is given, and there
abbrev pub IsThere : {V : Type 0} → FinMap code_cmp V → Option (List ℕ) → Type 0
IsThere things o = (code : List ℕ) × (o ≡ Some code) × IsSome (get things code)

named_is : {V : Type 0} (things : FinMap code_cmp V) (o : Option (List ℕ)) (code : List ℕ) → o ≡ Some code → Names things o → IsSome (get things code)
named_is things None code e h = absurd cc
named_is things (Some other) code e h = let same : other ≡ code = cc in ap (λ c. is_some (get things c)) (sym same) ∙ h

-- where each nearer aggregation has one, so has this
class_at : (tree : TreeState) → ArePlaced tree.aggregations → NamesExist tree.schedules tree.classes tree.aggregations tree.records → (a : ℕ) (it : Aggregation) (own : Option (List ℕ)) (parent : Option ℕ)
    → 0 < a → a ≤ length tree.aggregations → numbered tree.aggregations a ≡ Some it → it.class ≡ own → it.parent ≡ parent
    → ((p : ℕ) → 0 < p → p < a → IsThere tree.classes (aggregation_class_in tree.aggregations p)) → IsThere tree.classes (aggregation_class_in tree.aggregations a)
class_at tree placed names a it (Some code) parent low high e own up above =
    (code, walk_here tree.aggregations a it code low e own, named_is tree.classes it.class code own (names.aggregation_classes a it e))
class_at tree placed names a it None None low high e own up above = absurd (placed_root a it up own (placed a it e))
class_at tree placed names a it None (Some p) low high e own up above =
    let within = placed_parent a it p up (placed a it e) in
    let next = above p within.0 within.1 in
    (next.0, walk_on tree.aggregations placed a p it low e own up ∙ next.1, next.2)

class_from : (tree : TreeState) → ArePlaced tree.aggregations → NamesExist tree.schedules tree.classes tree.aggregations tree.records → (steps a : ℕ) → 0 < a → a ≤ steps → a ≤ length tree.aggregations → IsThere tree.classes (aggregation_class_in tree.aggregations a)
class_from tree placed names zero a low few high = absurd (omega arith)
class_from tree placed names (suc steps) a low few high =
    let here = numbered_there tree.aggregations a low high in
    class_at tree placed names a here.0 here.0.class here.0.parent low high here.1 refl refl (λ p low_p less. class_from tree placed names steps p low_p (omega arith) (omega arith))

class_by : (tree : TreeState) → ArePlaced tree.aggregations → NamesExist tree.schedules tree.classes tree.aggregations tree.records → (r : ℕ) (head : Record) (own : Option (List ℕ)) → numbered tree.records r ≡ Some head → head.class ≡ own → IsThere tree.classes (class_of tree r)
class_by tree placed names r head (Some code) e own =
    (code, class_own tree.aggregations tree.records r head code e own, named_is tree.classes head.class code own (names.record_classes r head e))
class_by tree placed names r head None e own =
    let aggregation = names.containers r head e in
    let of_aggregation = class_from tree placed names head.aggregation head.aggregation aggregation.0 (omega arith) aggregation.1 in
    (of_aggregation.0, class_above tree.aggregations tree.records r head e own ∙ of_aggregation.1, of_aggregation.2)

pub class_there : (tree : TreeState) → IsForest tree.aggregations → NamesExist tree.schedules tree.classes tree.aggregations tree.records → (r : ℕ) (head : Record) → numbered tree.records r ≡ Some head → IsThere tree.classes (class_of tree r)
class_there tree forest names r head e = class_by tree (placed_in tree.aggregations forest names.root_classes) names r head head.class e refl

plan_by : (tree : TreeState) → NamesExist tree.schedules tree.classes tree.aggregations tree.records → (r : ℕ) (head : Record) (own : Option (List ℕ)) → IsThere tree.classes (class_of tree r) → numbered tree.records r ≡ Some head → head.schedule ≡ own → IsThere tree.schedules (plan_of tree r)
plan_by tree names r head (Some code) class e own =
    (code, plan_own tree.classes tree.aggregations tree.records r head code e own, named_is tree.schedules head.schedule code own (names.record_schedules r head e))
plan_by tree names r head None class e own =
    let it = some_is (get tree.classes class.0) class.2 in
    (it.0.schedule, plan_class tree.classes tree.aggregations tree.records r head class.0 (Some it.0) e own class.1 it.1, names.class_schedules class.0 it.0 it.1)

pub plan_there : (tree : TreeState) → IsForest tree.aggregations → NamesExist tree.schedules tree.classes tree.aggregations tree.records → (r : ℕ) (head : Record) → numbered tree.records r ≡ Some head → IsThere tree.schedules (plan_of tree r)
plan_there tree forest names r head e = plan_by tree names r head head.schedule (class_there tree forest names r head e) e refl
