-- How many holds in force have a target, after a change of the holds and by the record that they cover.
use Rattle.std.proofs.Common.{◌≡◌, ℕ, suc, ◌+◌, ◌≤◌, List, [], ◌∷◌, length, map, filter, Bool, true, false, cond, ◌&&◌, ◌||◌, Option, Some, None, refl, sym, ap, ◌∙◌, arith}
use Rattle.std.specs.Prelude.{nat_lt}
use Rattle.std.specs.Ordering.{is_eq, ordering_reverse}
use Rattle.std.specs.declared.cmp.Ordering.{Ordering}
use Rattle.std.specs.declared.cmp.Ordering.TheVariants.{Less, Equal, Greater}
use Rattle.std.specs.Cmp.Lexicographic.{nat_list_cmp_total}
use Rattle.std.specs.FinMap.{entries, entries-insert, get, get-entries, insert, len, len-entries, values}
use Rattle.std.specs.FinMap.Entries.{by_order, find, put}
use Rattle.std.specs.FinSet.{contains}
use Rattle.std.specs.List.{list_any}
use Rattle.std.proofs.lemmas.Bool.Decides.{nat_tests}
use Rattle.office_records.specs.Lists.{amended, amended_by, is_some_and}
use Rattle.office_records.specs.Tree.{code_cmp}
use Rattle.office_holds.specs.HoldCounts.{binding_count, binds, binds_at}
use Rattle.office_rules.specs.Holds.{HoldMap, HoldState, held_in, is_held_class, is_in_force}
use Rattle.office_holds.specs.Numbers.{one_if}
use Rattle.office_records.specs.declared.target.Target.{Target}
use Rattle.office_records.specs.declared.target.Target.TheVariants as target
use Rattle.office_holds.proofs.Entries.{Rises, entries_rise, found_after}

-- ---- how many entries pass a test

abbrev count_in : {V : Type 0} → (V → Bool) → List (List ℕ × V) → ℕ
count_in test es = length (filter test (map (λ e. e.1) es))

count_first : {V : Type 0} (test : V → Bool) (e : List ℕ × V) (es : List (List ℕ × V)) → count_in test (e ∷ es) ≡ one_if (test e.1) + count_in test es
count_first test e es = elim (test e.1) as (λ b. length (cond b (e.1 ∷ filter test (map (λ f. f.1) es)) (filter test (map (λ f. f.1) es))) ≡ one_if b + count_in test es) [ true ↦ omega arith | false ↦ omega arith ]

before_both : (k q : List ℕ) → code_cmp k q ≡ Less → code_cmp q k ≡ Less → ⊥
before_both k q before after = let turned = nat_list_cmp_total.antisymm q k ∙ ap ordering_reverse before in absurd cc

-- a code before the first entry is not found
none_found : {V : Type 0} (test : V → Bool) (k : List ℕ) (e : List ℕ × V) (es : List (List ℕ × V)) (o : Option V) → Rises (e ∷ es) → code_cmp k e.0 ≡ Less → find code_cmp k es ≡ o → is_some_and o test ≡ false
none_found test k e es None rises before is = refl
none_found test k e es (Some v) rises before is = absurd (before_both k e.0 before (found_after e.0 k v es rises.0 is))

count_put_by : {V : Type 0} (test : V → Bool) (k : List ℕ) (v : V) (e : List ℕ × V) (es : List (List ℕ × V)) (r : Ordering) → Rises (e ∷ es) → code_cmp k e.0 ≡ r
    → count_in test (put code_cmp k v es) + one_if (is_some_and (find code_cmp k es) test) ≡ count_in test es + one_if (test v)
    → count_in test (by_order r ((k, v) ∷ e ∷ es) ((e.0, v) ∷ es) (e ∷ put code_cmp k v es)) + one_if (is_some_and (cond (is_eq r) (Some e.1) (find code_cmp k es)) test) ≡ count_in test (e ∷ es) + one_if (test v)
count_put_by test k v e es Less rises is rest =
    let none = ap one_if (none_found test k e es (find code_cmp k es) rises is refl) in omega (arith, none, count_first test (k, v) (e ∷ es))
count_put_by test k v e es Equal rises is rest = omega (arith, count_first test (e.0, v) es, count_first test e es)
count_put_by test k v e es Greater rises is rest = omega (arith, rest, count_first test e (put code_cmp k v es), count_first test e es)

-- an entry that is put in counts if it passes, in place of the one that was there
count-put : {V : Type 0} (test : V → Bool) (k : List ℕ) (v : V) (es : List (List ℕ × V)) → Rises es → count_in test (put code_cmp k v es) + one_if (is_some_and (find code_cmp k es) test) ≡ count_in test es + one_if (test v)
count-put test k v [] rises = omega (arith, count_first test (k, v) [])
count-put test k v (e ∷ es) rises = count_put_by test k v e es (code_cmp k e.0) rises refl (count-put test k v es rises.1)

count-le : {A : Type 0} (test : A → Bool) (xs : List A) → length (filter test xs) ≤ length xs
count-le test [] = omega arith
count-le test (x ∷ xs) = elim (test x) as (λ b. length (cond b (x ∷ filter test xs) (filter test xs)) ≤ suc (length xs)) [ true ↦ omega (arith, count-le test xs) | false ↦ omega (arith, count-le test xs) ]

-- ---- how many holds in force have a target

pub binding_count-insert : (holds : HoldMap) (k : List ℕ) (hold : HoldState) (t : Target) → binding_count (insert holds k hold) t + one_if (binds_at holds k t) ≡ binding_count holds t + one_if (binds t hold)
unfolding binding_count
binding_count-insert holds k hold t =
    (λ i. count_in (binds t) (entries-insert nat_list_cmp_total holds k hold i) + one_if (is_some_and (get-entries holds k i) (binds t))) ∙ count-put (binds t) k hold (entries holds) (entries_rise holds)

amended_count_by : (holds : HoldMap) (k : List ℕ) (change : HoldState → HoldState) (t : Target) (o : Option HoldState) → get holds k ≡ o
    → binding_count (amended_by holds k change o) t + one_if (is_some_and o (binds t)) ≡ binding_count holds t + one_if (is_some_and o (λ hold. binds t (change hold)))
amended_count_by holds k change t None is = refl
amended_count_by holds k change t (Some hold) is =
    let e = binding_count-insert holds k (change hold) t in
    let here = ap (λ (o : Option HoldState). one_if (is_some_and o (binds t))) is in
    omega (arith, e, here)

-- a hold that is changed counts if it binds then, in place of what it did
pub binding_count-amended : (holds : HoldMap) (k : List ℕ) (change : HoldState → HoldState) (t : Target)
    → binding_count (amended holds k change) t + one_if (binds_at holds k t) ≡ binding_count holds t + one_if (is_some_and (get holds k) (λ hold. binds t (change hold)))
binding_count-amended holds k change t = amended_count_by holds k change t (get holds k) refl

values_length : {V : Type 0} (es : List (List ℕ × V)) → length (map (λ e. e.1) es) ≡ length es
values_length [] = refl
values_length (e ∷ es) = ap suc (values_length es)

-- they are at most as many as the holds
pub binding_count-le : (holds : HoldMap) (t : Target) → binding_count holds t ≤ len holds
unfolding binding_count
binding_count-le holds t = omega (arith, count-le (binds t) (values holds), values_length (entries holds), len-entries holds)

-- ---- what the counts report

some_counted : (n : ℕ) → true ≡ nat_lt 0 (suc n)
some_counted n = grind (arith, nat_tests)

any_by_count : {A : Type 0} (test : A → Bool) (xs : List A) → list_any test xs ≡ nat_lt 0 (length (filter test xs))
any_by_count test [] = refl
any_by_count test (x ∷ xs) =
    elim (test x) as (λ b. (b || list_any test xs) ≡ nat_lt 0 (length (cond b (x ∷ filter test xs) (filter test xs)))) [ true ↦ some_counted (length (filter test xs)) | false ↦ any_by_count test xs ]

-- a hold in force has the class as a target where the count of these is not 0
pub class_by_count : (holds : HoldMap) (class : List ℕ) → is_held_class holds class ≡ nat_lt 0 (binding_count holds (target.Class class))
unfolding is_held_class binding_count
class_by_count holds class = any_by_count (binds (target.Class class)) (values holds)

pub any_agree : {A : Type 0} (p q : A → Bool) → ((x : A) → p x ≡ q x) → (xs : List A) → list_any p xs ≡ list_any q xs
any_agree p q same [] = refl
any_agree p q same (x ∷ xs) = λ i. same x i || any_agree p q same xs i

any_or : {A : Type 0} (p q : A → Bool) (xs : List A) → list_any (λ x. p x || q x) xs ≡ (list_any p xs || list_any q xs)
any_or p q [] = refl
any_or p q (x ∷ xs) = ap (λ b. (p x || q x) || b) (any_or p q xs) ∙ four (p x) (q x) (list_any p xs) (list_any q xs) where
  four : (a b c d : Bool) → ((a || b) || (c || d)) ≡ ((a || c) || (b || d))
  four true b c d = refl
  four false true true d = refl
  four false true false d = refl
  four false false c d = refl

any_none : {A : Type 0} (xs : List A) → list_any (λ x. false) xs ≡ false
any_none [] = refl
any_none (x ∷ xs) = any_none xs

-- which of the two lists is gone through first makes no difference
any_swap : {A B : Type 0} (f : A → B → Bool) (xs : List A) (ys : List B) → list_any (λ x. list_any (f x) ys) xs ≡ list_any (λ y. list_any (λ x. f x y) xs) ys
any_swap f xs [] = any_none xs
any_swap f xs (y ∷ ys) = any_or (λ x. f x y) (λ x. list_any (f x) ys) xs ∙ ap (λ b. list_any (λ x. f x y) xs || b) (any_swap f xs ys)

and_any : {B : Type 0} (a : Bool) (g : B → Bool) (ys : List B) → (a && list_any g ys) ≡ list_any (λ y. a && g y) ys
and_any true g ys = refl
and_any false g ys = sym (any_none ys)

and_or : (a b c d : Bool) → (a && (b || c || d)) ≡ ((a && b) || (a && c) || (a && d))
and_or true b c d = refl
and_or false b c d = refl

abbrev is_counted : HoldMap → Target → Bool
is_counted holds t = nat_lt 0 (binding_count holds t)

-- a record is held where a count of its own, of an aggregation above it or of its class is not 0
pub held_by_counts : (holds : HoldMap) (r : ℕ) (above : List ℕ) (class : List ℕ)
    → held_in holds r above (Some class) ≡ (is_counted holds (target.Record r) || list_any (λ a. is_counted holds (target.Aggregation a)) above || is_counted holds (target.Class class))
unfolding held_in binding_count
held_by_counts holds r above class =
    let all = values holds in
    any_agree _ _ (λ (hold : HoldState). and_or (is_in_force hold) (contains hold.records r) (list_any (contains hold.aggregations) above) (contains hold.classes class)
    ∙ ap (λ b. binds (target.Record r) hold || b || binds (target.Class class) hold) (and_any (is_in_force hold) (contains hold.aggregations) above)) all
    ∙ any_or (λ (hold : HoldState). binds (target.Record r) hold || list_any (λ a. binds (target.Aggregation a) hold) above) (binds (target.Class class)) all
    ∙ ap (λ b. b || list_any (binds (target.Class class)) all) (any_or (binds (target.Record r)) (λ (hold : HoldState). list_any (λ a. binds (target.Aggregation a) hold) above) all
    ∙ ap (λ b. list_any (binds (target.Record r)) all || b) (any_swap (λ (hold : HoldState) a. binds (target.Aggregation a) hold) all above))
    ∙ (λ i. any_by_count (binds (target.Record r)) all i || any_agree _ _ (λ a. any_by_count (binds (target.Aggregation a)) all) above i || any_by_count (binds (target.Class class)) all i)
