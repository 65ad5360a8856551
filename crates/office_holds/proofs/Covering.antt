-- A hold covers a record exactly where it is in force and has a target that the record has, and the least covering hold is the least of those.
use Rattle.std.proofs.Common.{◌≡◌, ◌≢◌, ◌↔◌, ◌⊎◌, inl, inr, ℕ, ◌==◌, IsTrue, List, [], ◌∷◌, Bool, true, false, ◌&&◌, ◌||◌, Option, Some, None, refl, sym, ap, ◌∙◌, arith}
use Rattle.std.proofs.lemmas.Bool.Decides.{nat_tests}
use Rattle.std.specs.List.{list_any}
use Rattle.std.specs.declared.cmp.Ordering.TheVariants.{Greater}
use Rattle.std.specs.FinMap.{entries, get-entries}
use Rattle.std.specs.FinSet.{FinSet, contains}
use Rattle.office_records.specs.Lists.{is_some_and}
use Rattle.office_records.specs.Sound.{IsSound}
use Rattle.office_records.specs.Tree.{TreeState, code_cmp, above, class_of}
use Rattle.office_rules.specs.Holds.{HoldMap, HoldState, is_in_force, hold_covers, held_in, is_held, covers_in, least_covering}
use Rattle.office_holds.specs.Meanings.{HasTargetAt, Covers, IsHeld}
use Rattle.office_records.proofs.Containing.{below_contains}
use Rattle.office_holds.proofs.Entries.{entries_rise, Passes, any_passes, passes_any, first_least, none_passes}

both_true : (a b : Bool) → (a && b) ≡ true → (a ≡ true) × (b ≡ true)
both_true true b e = (refl, e)
both_true false b e = absurd cc

true_both : (a b : Bool) → a ≡ true → b ≡ true → (a && b) ≡ true
true_both true b e f = f
true_both false b e f = absurd cc

or_true : (a b : Bool) → (a || b) ≡ true → (a ≡ true) ⊎ (b ≡ true)
or_true true b e = inl refl
or_true false b e = inr e

true_left : (a b : Bool) → a ≡ true → (a || b) ≡ true
true_left true b e = refl
true_left false b e = absurd cc

true_right : (a b : Bool) → b ≡ true → (a || b) ≡ true
true_right true b e = refl
true_right false b e = e

one_true : (a b c : Bool) → (a || b || c) ≡ true → (a ≡ true) ⊎ (b ≡ true) ⊎ (c ≡ true)
one_true true b c e = inl refl
one_true false true c e = inr (inl refl)
one_true false false c e = inr (inr e)

true_one : (a b c : Bool) → (a ≡ true) ⊎ (b ≡ true) ⊎ (c ≡ true) → (a || b || c) ≡ true
true_one true b c h = refl
true_one false true c h = refl
true_one false false c (inl e) = absurd cc
true_one false false c (inr (inl e)) = absurd cc
true_one false false c (inr (inr e)) = e

-- ---- a number of a list that passes a test

is_same : (a : ℕ) → (a == a) ≡ true
is_same a = grind (arith, nat_tests)

same_is : (a b : ℕ) → (b == a) ≡ true → b ≡ a
same_is a b e = grind (arith, nat_tests)

any_number_by : (p : ℕ → Bool) (x : ℕ) (xs : List ℕ) (b : Bool) → p x ≡ b → (b || list_any p xs) ≡ true
    → (list_any p xs ≡ true → (a : ℕ) × (p a ≡ true) × (list_any (λ y. y == a) xs ≡ true)) → (a : ℕ) × (p a ≡ true) × (list_any (λ y. y == a) (x ∷ xs) ≡ true)
any_number_by p x xs true is any rest = (x, is, true_left (x == x) (list_any (λ y. y == x) xs) (is_same x))
any_number_by p x xs false is any rest = let later = rest any in (later.0, later.1, true_right (x == later.0) (list_any (λ y. y == later.0) xs) later.2)

any_number : (p : ℕ → Bool) (xs : List ℕ) → list_any p xs ≡ true → (a : ℕ) × (p a ≡ true) × (list_any (λ y. y == a) xs ≡ true)
any_number p [] any = absurd cc
any_number p (x ∷ xs) any = any_number_by p x xs (p x) refl any (any_number p xs)

number_any : (p : ℕ → Bool) (xs : List ℕ) (a : ℕ) → p a ≡ true → list_any (λ y. y == a) xs ≡ true → list_any p xs ≡ true
number_any p [] a passes there = absurd cc
number_any p (x ∷ xs) a passes there = elim (or_true (x == a) (list_any (λ y. y == a) xs) there) [
  | inl here ↦ true_left (p x) (list_any p xs) (ap p (same_is a x here) ∙ passes)
  | inr later ↦ true_right (p x) (list_any p xs) (number_any p xs a passes later)
]

-- ---- what a hold covers

class_there : (classes : FinSet code_cmp) (o : Option (List ℕ)) → is_some_and o (contains classes) ≡ true → (class : List ℕ) × (contains classes class ≡ true) × (o ≡ Some class)
class_there classes None h = absurd cc
class_there classes (Some class) h = (class, h, refl)

there_class : (classes : FinSet code_cmp) (o : Option (List ℕ)) (class : List ℕ) → contains classes class ≡ true → o ≡ Some class → is_some_and o (contains classes) ≡ true
there_class classes o class h is = ap (λ o. is_some_and o (contains classes)) is ∙ h

abbrev is_over : HoldState → TreeState → ℕ → Bool
is_over hold tree r = list_any (contains hold.aggregations) (above tree r)

abbrev is_classed : HoldState → TreeState → ℕ → Bool
is_classed hold tree r = is_some_and (class_of tree r) (contains hold.classes)

-- the record, an aggregation above it or its class is a target
abbrev is_target : HoldState → TreeState → ℕ → Bool
is_target hold tree r = contains hold.records r || is_over hold tree r || is_classed hold tree r

by_target : (hold : HoldState) (tree : TreeState) (r : ℕ) → IsSound tree → is_target hold tree r ≡ true → HasTargetAt hold tree r
by_target hold tree r sound h = elim (one_true (contains hold.records r) (is_over hold tree r) (is_classed hold tree r) h) [
  | inl its ↦ inl its
  | inr (inl over) ↦ let one = any_number (contains hold.aggregations) (above tree r) over in inr (inl (one.0, one.1, (below_contains tree one.0 r sound).0 one.2))
  | inr (inr class) ↦ inr (inr (class_there hold.classes (class_of tree r) class))
]

target_by : (hold : HoldState) (tree : TreeState) (r : ℕ) → IsSound tree → HasTargetAt hold tree r → is_target hold tree r ≡ true
target_by hold tree r sound (inl its) = true_one (contains hold.records r) (is_over hold tree r) (is_classed hold tree r) (inl its)
target_by hold tree r sound (inr (inl (a, on, over))) =
    true_one (contains hold.records r) (is_over hold tree r) (is_classed hold tree r) (inr (inl (number_any (contains hold.aggregations) (above tree r) a on ((below_contains tree a r sound).1 over))))
target_by hold tree r sound (inr (inr (class, on, is))) =
    true_one (contains hold.records r) (is_over hold tree r) (is_classed hold tree r) (inr (inr (there_class hold.classes (class_of tree r) class on is)))

-- whether a hold covers the record, by what is above it and its class
abbrev pub covers_it : TreeState → ℕ → HoldState → Bool
covers_it tree r hold = hold_covers hold r (above tree r) (class_of tree r)

pub passes_covers : (holds : HoldMap) (tree : TreeState) (r : ℕ) (code : List ℕ) → IsSound tree → Passes (covers_it tree r) (entries holds) code → Covers holds tree code r
passes_covers holds tree r code sound (hold, found, passes) =
    let both = both_true (is_in_force hold) (is_target hold tree r) passes in
    (hold, get-entries holds code ∙ found, both.0, by_target hold tree r sound both.1)

pub covers_passes : (holds : HoldMap) (tree : TreeState) (r : ℕ) (code : List ℕ) → IsSound tree → Covers holds tree code r → Passes (covers_it tree r) (entries holds) code
covers_passes holds tree r code sound (hold, there, force, target) =
    (hold, sym (get-entries holds code) ∙ there, true_both (is_in_force hold) (is_target hold tree r) force (target_by hold tree r sound target))

-- ---- the laws

pub held_where : (holds : HoldMap) (tree : TreeState) (r : ℕ) → IsSound tree → (IsTrue (is_held holds tree r) ↔ IsHeld holds tree r)
unfolding held_in
held_where holds tree r sound = (
  λ held. let one = any_passes (covers_it tree r) (entries holds) (entries_rise holds) held in (one.0, passes_covers holds tree r one.0 sound one.1),
  λ held. passes_any (covers_it tree r) (entries holds) held.0 (covers_passes holds tree r held.0 sound held.1),
)

pub least_covers : (holds : HoldMap) (tree : TreeState) (r : ℕ) (code : List ℕ) → IsSound tree → least_covering holds tree r ≡ Some code → Covers holds tree code r
unfolding covers_in
least_covers holds tree r code sound least = passes_covers holds tree r code sound (first_least (covers_it tree r) (entries holds) code (entries_rise holds) least).0

pub none_before : (holds : HoldMap) (tree : TreeState) (r : ℕ) (code other : List ℕ) → IsSound tree → least_covering holds tree r ≡ Some code → Covers holds tree other r → code_cmp code other ≢ Greater
unfolding covers_in
none_before holds tree r code other sound least covers = (first_least (covers_it tree r) (entries holds) code (entries_rise holds) least).1 other (covers_passes holds tree r other sound covers)

pub none_covers : (holds : HoldMap) (tree : TreeState) (r : ℕ) → ((least_covering holds tree r ≡ None) ↔ (is_held holds tree r ≡ false))
unfolding covers_in held_in
none_covers holds tree r = none_passes (covers_it tree r) (entries holds)
