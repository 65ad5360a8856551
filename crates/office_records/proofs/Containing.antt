-- The aggregations above a record are those that its steps lead to, and its class is that of the nearest that has one.
use Rattle.std.proofs.Common.{◌≡◌, ◌↔◌, inl, inr, ℕ, zero, suc, ◌<◌, ◌≤◌, ◌==◌, Bool, true, false, ◌||◌, ◌&&◌, nat_le, IsTrue, List, [], ◌∷◌, map, length, slice_get, Option, Some, None, refl, sym, ap, ◌∙◌, arith, option_and_then}
use Rattle.std.proofs.lemmas.Bool.Decides.{nat_tests}
use Rattle.std.specs.List.{list_any}
use Rattle.office_records.specs.Disposal.{is_below}
use Rattle.office_records.specs.Lists.{numbered, first_some}
use Rattle.office_records.specs.Meanings.{parent_of, reached, aggregation_of, Contains, own_class_of, record_own_class, IsNearestFrom, IsClassOf}
use Rattle.office_records.specs.Sound.{IsForest, IsSound}
use Rattle.office_records.specs.Tree.{TreeState, has_aggregation, chain, chain_of, above, above_in, above_head, own_classes, class_in, class_of, aggregation_class_in, aggregation_class_of}
use Rattle.office_records.specs.declared.aggregation.Aggregation.{Aggregation}
use Rattle.office_records.specs.declared.head.Record.{Record}

-- the number, if there is one, is above 0 and at most m
abbrev Fits : ℕ → Option ℕ → Type 0
Fits m o = (a : ℕ) → o ≡ Some a → (0 < a) × (a ≤ m)

fits_parent : (xs : List Aggregation) → IsForest xs → (a k : ℕ) (o : Option Aggregation) → numbered xs a ≡ o → a ≤ suc k → Fits k (option_and_then (λ (it : Aggregation). it.parent) o)
fits_parent xs forest a k None e h p up = absurd cc
fits_parent xs forest a k (Some it) e h p up = let low = forest.below a p it e up in (low.0, omega (arith, low.1))

reached_none : (xs : List Aggregation) (n : ℕ) → reached xs n None ≡ None
reached_none xs zero = refl
reached_none xs (suc n) = reached_none xs n

-- place n of a chain has what n steps lead to
chain_place : (xs : List Aggregation) → IsForest xs → (m n : ℕ) (o : Option ℕ) → Fits m o → slice_get (chain xs m o) n ≡ reached xs n o
unfolding chain
chain_place xs forest m n None h = sym (reached_none xs n)
chain_place xs forest zero n (Some a) h = let fit = h a refl in absurd (omega (arith, fit.0, fit.1))
chain_place xs forest (suc k) zero (Some a) h = refl
chain_place xs forest (suc k) (suc n) (Some a) h = chain_place xs forest k n (parent_of xs a) (fits_parent xs forest a k (numbered xs a) refl (h a refl).1)

head_place : (tree : TreeState) → IsSound tree → (r n : ℕ) (o : Option Record) → numbered tree.records r ≡ o
    → slice_get (above_head tree.aggregations o) n ≡ reached tree.aggregations n (option_and_then (λ (head : Record). Some head.aggregation) o)
head_place tree sound r n None e = sym (reached_none tree.aggregations n)
head_place tree sound r n (Some head) e =
    let aggregation = sound.names.containers r head e in
    chain_place tree.aggregations sound.forest head.aggregation n (Some head.aggregation) (λ a is. let same : head.aggregation ≡ a = cc in (omega (arith, aggregation.0, same), omega (arith, same)))

-- place n above a record has what n steps from its own aggregation lead to
above_place : (tree : TreeState) → IsSound tree → (r n : ℕ) → slice_get (above tree r) n ≡ reached tree.aggregations n (aggregation_of tree r)
unfolding above_in
above_place tree sound r n = head_place tree sound r n (numbered tree.records r) refl

-- ---- the aggregations that contain a record

same_is : (m n : ℕ) → (m == n) ≡ true → m ≡ n
same_is m n h = grind (arith, nat_tests)

is_same : (m n : ℕ) → m ≡ n → (m == n) ≡ true
is_same m n h = grind (arith, nat_tests)

-- a number that is found in a list has a place there
any_place : (xs : List ℕ) (a : ℕ) → list_any (λ b. b == a) xs ≡ true → (n : ℕ) × (slice_get xs n ≡ Some a)
any_place [] a e = absurd cc
any_place (x ∷ xs) a e = here x xs a (x == a) refl e (any_place xs a)
  where
    here : (x : ℕ) (xs : List ℕ) (a : ℕ) (b : Bool) → (x == a) ≡ b → (b || list_any (λ b. b == a) xs) ≡ true → (list_any (λ b. b == a) xs ≡ true → (n : ℕ) × (slice_get xs n ≡ Some a)) → (n : ℕ) × (slice_get (x ∷ xs) n ≡ Some a)
    here x xs a true test e rest = (0, ap Some (same_is x a test))
    here x xs a false test e rest = let h = rest e in (suc h.0, h.1)

or_right : (b c : Bool) → c ≡ true → (b || c) ≡ true
or_right true c e = refl
or_right false c e = e

place_any : (xs : List ℕ) (a n : ℕ) → slice_get xs n ≡ Some a → list_any (λ b. b == a) xs ≡ true
place_any [] a n e = absurd cc
place_any (x ∷ xs) a zero e = let same : x ≡ a = cc in ap (λ b. b || list_any (λ b. b == a) xs) (is_same x a same)
place_any (x ∷ xs) a (suc n) e = or_right (x == a) (list_any (λ b. b == a) xs) (place_any xs a n e)

pub below_contains : (tree : TreeState) (a r : ℕ) → IsSound tree → (IsTrue (is_below tree a r) ↔ Contains tree a r)
below_contains tree a r sound =
    (λ below. let h = any_place (above tree r) a below in (h.0, sym (above_place tree sound r h.0) ∙ h.1), λ contains. place_any (above tree r) a contains.0 (above_place tree sound r contains.0 ∙ contains.1))

-- ---- the class of a record

-- at some number of a list there is a class, and at none before it
record IsFirst (own : ℕ → Option (List ℕ)) (xs : List ℕ) (class : List ℕ) : Type 0 where
  place : ℕ
  number : ℕ
  at : slice_get xs place ≡ Some number
  has : own number ≡ Some class
  before : (m b : ℕ) → m < place → slice_get xs m ≡ Some b → own b ≡ None

first_is : (own : ℕ → Option (List ℕ)) (xs : List ℕ) (class : List ℕ) → first_some (map own xs) ≡ Some class → IsFirst own xs class
first_is own [] class e = absurd cc
first_is own (x ∷ xs) class e = here own x xs class (own x) refl e (first_is own xs class)
  where
    later : (own : ℕ → Option (List ℕ)) (x : ℕ) (xs : List ℕ) (place : ℕ) → own x ≡ None → ((m b : ℕ) → m < place → slice_get xs m ≡ Some b → own b ≡ None) → (m b : ℕ) → m < suc place → slice_get (x ∷ xs) m ≡ Some b → own b ≡ None
    later own x xs place none before zero b h e = let same : x ≡ b = cc in ap own (sym same) ∙ none
    later own x xs place none before (suc m) b h e = before m b (omega (arith, h)) e

    here : (own : ℕ → Option (List ℕ)) (x : ℕ) (xs : List ℕ) (class : List ℕ) (o : Option (List ℕ)) → own x ≡ o → first_some (o ∷ map own xs) ≡ Some class → (first_some (map own xs) ≡ Some class → IsFirst own xs class) → IsFirst own (x ∷ xs) class
    here own x xs class None is e rest = let h = rest e in record { place = suc h.place; number = h.number; at = h.at; has = h.has; before = later own x xs h.place is h.before }
    here own x xs class (Some c) is e rest = record { place = 0; number = x; at = refl; has = is ∙ e; before = λ m b h at. absurd (omega (arith, h)) }

is_first : (own : ℕ → Option (List ℕ)) (xs : List ℕ) (class : List ℕ) (n b : ℕ) → slice_get xs n ≡ Some b → own b ≡ Some class → ((m c : ℕ) → m < n → slice_get xs m ≡ Some c → own c ≡ None) → first_some (map own xs) ≡ Some class
is_first own [] class n b at has before = absurd cc
is_first own (x ∷ xs) class zero b at has before = let same : x ≡ b = cc in ap (λ o. first_some (o ∷ map own xs)) (ap own same ∙ has)
is_first own (x ∷ xs) class (suc n) b at has before =
    ap (λ o. first_some (o ∷ map own xs)) (before 0 x (omega arith) refl) ∙ is_first own xs class n b at has (λ m c h e. before (suc m) c (omega (arith, h)) e)

-- the chain from an aggregation reports the class of the nearest that has one
nearest_is : (xs : List Aggregation) (from : Option ℕ) (class : List ℕ) (chained : List ℕ) → ((n : ℕ) → slice_get chained n ≡ reached xs n from) → first_some (own_classes xs chained) ≡ Some class → IsNearestFrom xs from class
nearest_is xs from class chained place e =
    let h = first_is (own_class_of xs) chained class e in
    record {
      steps = h.place;
      nearest = h.number;
      leads = sym (place h.place) ∙ h.at;
      own = h.has;
      nearer = λ fewer b less leads. h.before fewer b less (place fewer ∙ leads);
    }

is_nearest : (xs : List Aggregation) (from : Option ℕ) (class : List ℕ) (chained : List ℕ) → ((n : ℕ) → slice_get chained n ≡ reached xs n from) → IsNearestFrom xs from class → first_some (own_classes xs chained) ≡ Some class
is_nearest xs from class chained place h =
    is_first (own_class_of xs) chained class h.steps h.nearest (place h.steps ∙ h.leads) h.own (λ m c less at. h.nearer m c less (sym (place m) ∙ at))

class_is : (tree : TreeState) (r : ℕ) (class : List ℕ) (o : Option (List ℕ)) → IsSound tree → record_own_class tree r ≡ o → first_some (o ∷ own_classes tree.aggregations (above tree r)) ≡ Some class → IsClassOf tree r class
class_is tree r class None sound own e = inr (own, nearest_is tree.aggregations (aggregation_of tree r) class (above tree r) (above_place tree sound r) e)
class_is tree r class (Some c) sound own e = inl (own ∙ e)

is_class : (tree : TreeState) (r : ℕ) (class : List ℕ) → IsSound tree → IsClassOf tree r class → first_some (record_own_class tree r ∷ own_classes tree.aggregations (above tree r)) ≡ Some class
is_class tree r class sound (inl own) = ap (λ o. first_some (o ∷ own_classes tree.aggregations (above tree r))) own
is_class tree r class sound (inr (none, nearest)) = ap (λ o. first_some (o ∷ own_classes tree.aggregations (above tree r))) none ∙ is_nearest tree.aggregations (aggregation_of tree r) class (above tree r) (above_place tree sound r) nearest

pub class_nearest : (tree : TreeState) (r : ℕ) (class : List ℕ) → IsSound tree → ((class_of tree r ≡ Some class) ↔ IsClassOf tree r class)
unfolding class_in
class_nearest tree r class sound = (class_is tree r class (record_own_class tree r) sound refl, is_class tree r class sound)

-- place n of the chain of an aggregation has what n steps from it lead to
own_place : (tree : TreeState) → IsSound tree → (a n : ℕ) → has_aggregation tree a ≡ true → slice_get (chain_of tree.aggregations a) n ≡ reached tree.aggregations n (Some a)
own_place tree sound a n has = chain_place tree.aggregations sound.forest a n (Some a) (λ b is. let same : a ≡ b = cc in (omega (arith, at_least a (length tree.aggregations) has, same), omega (arith, same)))
  where
    at_least : (a n : ℕ) → (nat_le 1 a && nat_le a n) ≡ true → 0 < a
    at_least a n h = grind (arith, nat_tests)

pub aggregation_class_nearest : (tree : TreeState) (a : ℕ) (class : List ℕ) → IsSound tree → IsTrue (has_aggregation tree a) → ((aggregation_class_of tree a ≡ Some class) ↔ IsNearestFrom tree.aggregations (Some a) class)
unfolding aggregation_class_in
aggregation_class_nearest tree a class sound has =
    let chained = chain_of tree.aggregations a in
    let place = λ (n : ℕ). own_place tree sound a n has in
    (nearest_is tree.aggregations (Some a) class chained place, is_nearest tree.aggregations (Some a) class chained place)
