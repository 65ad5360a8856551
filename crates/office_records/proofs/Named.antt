-- What the tests of limits and of names report.
use Rattle.std.proofs.Common.{◌≡◌, ℕ, ◌≤◌, List, [], ◌∷◌, length, Option, Some, None, refl, sym, ap, ◌∙◌, subst, cond, Bool, true, false, ◌⊎◌, inl, inr, arith}
use Rattle.std.specs.Prelude.{IsSome, nat_le, ◌&&◌, ◌||◌}
use Rattle.std.specs.Option.{is_some}
use Rattle.std.specs.Ordering.{is_eq}
use Rattle.std.specs.declared.cmp.Ordering.TheVariants.{Less}
use Rattle.std.specs.List.{All, AllByRecursion}
use Rattle.std.specs.List.Sorted.{IsStrictlySortedBy}
use Rattle.std.specs.Map.{keys_of, values_of, lookup}
use Rattle.std.specs.BTreeMap.{is_at}
use Rattle.std.specs.Cmp.{eq_by_cmp_equiv}
use Rattle.std.specs.Cmp.Lexicographic.{nat_list_cmp_total}
use Rattle.std.specs.FinMap.{FinMap, get, contains_key, from_entries, len}
use Rattle.std.proofs.lemmas.Bool.Decides.{nat_tests}
use Rattle.std.proofs.lemmas.List.Elements.{All-from_recursion, recursion_from_All}
use Rattle.office_records.specs.Loading.{is_aggregation_named, is_record_named, is_there, is_within_limits}
use Rattle.office_records.specs.Lists.{numbered}
use Rattle.office_records.specs.Sound.{FitsLimits, Names, NamesExist}
use Rattle.office_records.specs.Tree.{code_cmp}
use Rattle.office_records.specs.declared.aggregation.Aggregation.{Aggregation}
use Rattle.office_records.specs.declared.class.Class.{Class}
use Rattle.office_records.specs.declared.head.Record.{Record}
use Rattle.office_records.specs.declared.schedule.Schedule.{Schedule}
use Rattle.office_records.proofs.Bridge.{at_numbers, from_numbers}
use Rattle.office_records.proofs.Inserting.{same_code}
use Rattle.office_records.proofs.Plan.{get_is}

-- ---- tests together

pub and_2 : (a b : Bool) → (a && b) ≡ true → (a ≡ true) × (b ≡ true)
and_2 true b e = (refl, e)
and_2 false b e = absurd cc

and_4 : (a b c d : Bool) → (a && b && c && d) ≡ true → (a ≡ true) × (b ≡ true) × (c ≡ true) × (d ≡ true)
and_4 true true true true e = (refl, refl, refl, refl)
and_4 true true true false e = absurd cc
and_4 true true false d e = absurd cc
and_4 true false c d e = absurd cc
and_4 false b c d e = absurd cc

pub all_2 : (a b : Bool) → a ≡ true → b ≡ true → (a && b) ≡ true
all_2 a b p q = ap (λ x. x && b) p ∙ q

all_4 : (a b c d : Bool) → a ≡ true → b ≡ true → c ≡ true → d ≡ true → (a && b && c && d) ≡ true
all_4 true true true true p q r s = refl
all_4 true true true false p q r s = absurd cc
all_4 true true false d p q r s = absurd cc
all_4 true false c d p q r s = absurd cc
all_4 false b c d p q r s = absurd cc

pub le_of : (n k : ℕ) → nat_le n k ≡ true → n ≤ k
le_of n k e = grind (arith, nat_tests)

pub le_to : (n k : ℕ) → n ≤ k → nat_le n k ≡ true
le_to n k e = grind (arith, nat_tests)

-- ---- limits

pub limits_hold : (schedules : FinMap code_cmp Schedule) (classes : FinMap code_cmp Class) (aggregations : List Aggregation) (records : List Record) → is_within_limits schedules classes aggregations records ≡ true → FitsLimits schedules classes aggregations records
limits_hold schedules classes aggregations records e =
    let w = and_4 (nat_le (len schedules) 1_000) (nat_le (len classes) 1_000) (nat_le (length aggregations) 50_000) (nat_le (length records) 200_000) e in
    record {
      schedules_few = le_of _ _ w.0;
      classes_few = le_of _ _ w.1;
      aggregations_few = le_of _ _ w.2;
      records_few = le_of _ _ w.3;
    }

pub limits_pass : (schedules : FinMap code_cmp Schedule) (classes : FinMap code_cmp Class) (aggregations : List Aggregation) (records : List Record) → FitsLimits schedules classes aggregations records → is_within_limits schedules classes aggregations records ≡ true
limits_pass schedules classes aggregations records fits =
    all_4 (nat_le (len schedules) 1_000) (nat_le (len classes) 1_000) (nat_le (length aggregations) 50_000) (nat_le (length records) 200_000)
    (le_to _ _ fits.schedules_few) (le_to _ _ fits.classes_few) (le_to _ _ fits.aggregations_few) (le_to _ _ fits.records_few)

-- ---- the values of a map, and what look-ups find

picked : {V : Type 0} (b : Bool) (x v : V) (o : Option V) → cond b (Some x) o ≡ Some v → (x ≡ v) ⊎ (o ≡ Some v)
picked true x v o e = inl cc
picked false x v o e = inr e

looked_up : {V : Type 0} (P : V → Type 0) (q : List ℕ) (es : List (List ℕ × V)) → AllByRecursion P (values_of es) → (v : V) → lookup (is_at (code_cmp q)) es ≡ Some v → P v
looked_up P q [] all v e = absurd cc
looked_up P q (x ∷ es) all v e = elim (picked (is_at (code_cmp q) x.0) x.1 v (lookup (is_at (code_cmp q)) es) e) [ inl here ↦ subst P here all.0 | inr there ↦ looked_up P q es all.1 v there ]

absent : {V : Type 0} (k : List ℕ) (es : List (List ℕ × V)) → AllByRecursion (λ q. code_cmp k q ≡ Less) (keys_of es) → lookup (is_at (code_cmp k)) es ≡ None
absent k [] a = refl
absent k (e ∷ es) a = ap (λ o. cond (is_eq o) (Some e.1) (lookup (is_at (code_cmp k)) es)) a.0 ∙ absent k es a.1

true_or_false : (b : Bool) → (b ≡ true) ⊎ (b ≡ false)
true_or_false true = inl refl
true_or_false false = inr refl

not_both : {V : Type 0} (o : Option V) (v : V) → o ≡ None → o ≡ Some v → ⊥
not_both None v e f = absurd cc
not_both (Some x) v e f = absurd cc

found_in_rest : {V : Type 0} (k q : List ℕ) (x v : V) (es : List (List ℕ × V)) → AllByRecursion (λ q. code_cmp k q ≡ Less) (keys_of es) → lookup (is_at (code_cmp q)) es ≡ Some v → lookup (is_at (code_cmp q)) ((k, x) ∷ es) ≡ Some v
found_in_rest k q x v es above found = elim (true_or_false (is_at (code_cmp q) k)) [
  | inl tie ↦ absurd (not_both (lookup (is_at (code_cmp q)) es) v (ap (λ c. lookup (is_at (code_cmp c)) es) (same_code q k tie) ∙ absent k es above) found)
  | inr apart ↦ ap (λ b. cond b (Some x) (lookup (is_at (code_cmp q)) es)) apart ∙ found
]

all_looked_up : {V : Type 0} (P : V → Type 0) (es : List (List ℕ × V)) → IsStrictlySortedBy code_cmp (keys_of es) → ((q : List ℕ) (v : V) → lookup (is_at (code_cmp q)) es ≡ Some v → P v) → AllByRecursion P (values_of es)
unfolding IsStrictlySortedBy
all_looked_up P [] o h = tt
all_looked_up P (e ∷ es) o h = (
  h e.0 e.1 (ap (λ b. cond b (Some e.1) (lookup (is_at (code_cmp e.0)) es)) ((eq_by_cmp_equiv nat_list_cmp_total).refl e.0)),
  all_looked_up P es o.1 (λ q v found. h q v (found_in_rest e.0 q e.1 v es o.0 found)),
)

-- what holds of all values holds of what is at each code
pub at_codes : {V : Type 0} (P : V → Type 0) (es : List (List ℕ × V)) → All P (values_of es) → (q : List ℕ) (v : V) → get (from_entries {R = code_cmp} es) q ≡ Some v → P v
at_codes P es all q v e = looked_up P q es (recursion_from_All P (values_of es) all) v (sym (get_is es q) ∙ e)

-- and back
pub from_codes : {V : Type 0} (P : V → Type 0) (es : List (List ℕ × V)) → IsStrictlySortedBy code_cmp (keys_of es) → ((q : List ℕ) (v : V) → get (from_entries {R = code_cmp} es) q ≡ Some v → P v) → All P (values_of es)
from_codes P es o h = All-from_recursion P (values_of es) (all_looked_up P es o (λ q v found. h q v (get_is es q ∙ found)))

-- ---- names

names_of_there : {V : Type 0} (things : FinMap code_cmp V) (code : Option (List ℕ)) → is_there things code ≡ true → Names things code
names_of_there things None e = tt
names_of_there things (Some c) e = e

there_of_names : {V : Type 0} (things : FinMap code_cmp V) (code : Option (List ℕ)) → Names things code → is_there things code ≡ true
there_of_names things None h = refl
there_of_names things (Some c) h = h

root_of : (p : Option ℕ) (c : Option (List ℕ)) → (is_some p || is_some c) ≡ true → p ≡ None → IsSome c
root_of None c e none = e
root_of (Some p) c e none = absurd cc

to_root : (p : Option ℕ) (c : Option (List ℕ)) → (p ≡ None → IsSome c) → (is_some p || is_some c) ≡ true
to_root None c h = h refl
to_root (Some p) c h = refl

pub names_hold : (schedules : FinMap code_cmp Schedule) (es : List (List ℕ × Class)) (aggregations : List Aggregation) (records : List Record)
    → All (λ it. contains_key schedules it.schedule ≡ true) (values_of es)
    → All (λ it. is_aggregation_named (from_entries {R = code_cmp} es) it ≡ true) aggregations
    → All (λ head. is_record_named schedules (from_entries {R = code_cmp} es) (length aggregations) head ≡ true) records
    → NamesExist schedules (from_entries es) aggregations records
names_hold schedules es aggregations records of_classes of_aggregations of_records =
    let named : (a : ℕ) (it : Aggregation) → numbered aggregations a ≡ Some it → (is_there (from_entries {R = code_cmp} es) it.class ≡ true) × ((is_some it.parent || is_some it.class) ≡ true) =
    λ a it e. and_2 (is_there (from_entries {R = code_cmp} es) it.class) (is_some it.parent || is_some it.class) (at_numbers (λ it. is_aggregation_named (from_entries {R = code_cmp} es) it ≡ true) aggregations of_aggregations a it e) in
    let headed : (r : ℕ) (head : Record) → numbered records r ≡ Some head → (nat_le 1 head.aggregation ≡ true) × (nat_le head.aggregation (length aggregations) ≡ true) × (is_there (from_entries {R = code_cmp} es) head.class ≡ true) × (is_there schedules head.schedule ≡ true) =
    λ r head e. and_4 (nat_le 1 head.aggregation) (nat_le head.aggregation (length aggregations)) (is_there (from_entries {R = code_cmp} es) head.class) (is_there schedules head.schedule) (at_numbers (λ head. is_record_named schedules (from_entries {R = code_cmp} es) (length aggregations) head ≡ true) records of_records r head e) in
    record {
      class_schedules = λ code class e. at_codes (λ it. contains_key schedules it.schedule ≡ true) es of_classes code class e;
      aggregation_classes = λ a it e. names_of_there (from_entries es) it.class (named a it e).0;
      root_classes = λ a it e none. root_of it.parent it.class (named a it e).1 none;
      containers = λ r head e. (le_of 1 head.aggregation (headed r head e).0, le_of head.aggregation (length aggregations) (headed r head e).1);
      record_classes = λ r head e. names_of_there (from_entries es) head.class (headed r head e).2;
      record_schedules = λ r head e. names_of_there schedules head.schedule (headed r head e).3;
    }

pub classes_pass : (schedules : FinMap code_cmp Schedule) (es : List (List ℕ × Class)) (aggregations : List Aggregation) (records : List Record) → IsStrictlySortedBy code_cmp (keys_of es) → NamesExist schedules (from_entries es) aggregations records → All (λ it. contains_key schedules it.schedule ≡ true) (values_of es)
classes_pass schedules es aggregations records o names = from_codes (λ it. contains_key schedules it.schedule ≡ true) es o names.class_schedules

pub aggregations_pass : (schedules : FinMap code_cmp Schedule) (classes : FinMap code_cmp Class) (aggregations : List Aggregation) (records : List Record) → NamesExist schedules classes aggregations records → All (λ it. is_aggregation_named classes it ≡ true) aggregations
aggregations_pass schedules classes aggregations records names = from_numbers (λ it. is_aggregation_named classes it ≡ true) aggregations
    (λ a it e. all_2 (is_there classes it.class) (is_some it.parent || is_some it.class) (there_of_names classes it.class (names.aggregation_classes a it e)) (to_root it.parent it.class (names.root_classes a it e)))

pub records_pass : (schedules : FinMap code_cmp Schedule) (classes : FinMap code_cmp Class) (aggregations : List Aggregation) (records : List Record) → NamesExist schedules classes aggregations records → All (λ head. is_record_named schedules classes (length aggregations) head ≡ true) records
records_pass schedules classes aggregations records names = from_numbers (λ head. is_record_named schedules classes (length aggregations) head ≡ true) records
    (λ r head e. all_4 (nat_le 1 head.aggregation) (nat_le head.aggregation (length aggregations)) (is_there classes head.class) (is_there schedules head.schedule)
    (le_to 1 head.aggregation (names.containers r head e).0) (le_to head.aggregation (length aggregations) (names.containers r head e).1)
    (there_of_names classes head.class (names.record_classes r head e)) (there_of_names schedules head.schedule (names.record_schedules r head e)))
