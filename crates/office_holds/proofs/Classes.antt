-- The class that an aggregation or a record has once its own is set or taken away.
use Rattle.std.proofs.Common.{◌≡◌, ℕ, zero, suc, ◌-◌, ◌<◌, ◌≤◌, true, false, ◌&&◌, List, [], ◌∷◌, length, Option, Some, None, refl, ap, ◌∙◌, arith, inl, inr}
use Rattle.std.specs.Prelude.{slice_get, nat_le}
use Rattle.std.specs.Option.{option_and_then}
use Rattle.std.proofs.lemmas.Bool.Decides.{nat_tests}
use Rattle.office_records.specs.Lists.{numbered, edited, edited_at, first_some}
use Rattle.office_records.specs.Tree.{TreeState, chain, chain_of, own_classes, aggregation_class_in, aggregation_class_of, class_in, class_of, above_in, above_head, has_aggregation, has_record}
use Rattle.office_records.specs.declared.aggregation.Aggregation.{Aggregation}
use Rattle.office_records.specs.declared.head.Record.{Record}
use Rattle.office_records.proofs.Walk.{ArePlaced, chain_same, chain-edited, class_own, class_above, walk_here, placed_parent}
use Rattle.office_rules.proofs.LastingHolds.{IsWithin, above_one, next_within, own_class}
use Rattle.office_rules.proofs.ReclassifiedHolds.{kept_or_there}

changed_at : {A : Type 0} (xs : List A) (i : ℕ) (f : A → A) (x : A) → slice_get xs i ≡ Some x → slice_get (edited_at xs i f) i ≡ Some (f x)
changed_at [] i f x e = absurd cc
changed_at (y ∷ ys) zero f x e = let same : y ≡ x = cc in ap (λ z. Some (f z)) same
changed_at (y ∷ ys) (suc i) f x e = changed_at ys i f x e

changed_there : {A : Type 0} (xs : List A) (n : ℕ) (f : A → A) (x : A) → numbered xs n ≡ Some x → numbered (edited xs n f) n ≡ Some (f x)
changed_there xs zero f x e = absurd cc
changed_there xs (suc n) f x e = changed_at xs n f x e

abbrev head_with : Option (List ℕ) → Record → Record
head_with class head = record head { class = class }

abbrev with_class : Option (List ℕ) → Aggregation → Aggregation
with_class class it = record it { class = class }

within_there : {A : Type 0} (xs : List A) (i : ℕ) → i < length xs → (x : A) × (slice_get xs i ≡ Some x)
within_there [] i low = absurd (omega arith)
within_there (x ∷ xs) zero low = (x, refl)
within_there (x ∷ xs) (suc i) low = within_there xs i (omega arith)

inside : (n k : ℕ) → (nat_le 1 (suc n) && nat_le (suc n) k) ≡ true → n < k
inside n k e = grind (arith, nat_tests)

-- what has a number that is there
pub there : {A : Type 0} (xs : List A) (n : ℕ) → (nat_le 1 n && nat_le n (length xs)) ≡ true → (x : A) × (numbered xs n ≡ Some x)
there xs zero e = absurd cc
there xs (suc n) e = within_there xs n (inside n (length xs) e)

-- ---- a record

pub record_given : (xs : List Aggregation) (records : List Record) (r : ℕ) (head : Record) (c : List ℕ) → numbered records r ≡ Some head → class_in xs (edited records r (head_with (Some c))) r ≡ Some c
record_given xs records r head c e = class_own xs (edited records r (head_with (Some c))) r (head_with (Some c) head) c (changed_there records r (head_with (Some c)) head e) refl

pub record_container : (xs : List Aggregation) (records : List Record) (r : ℕ) (head : Record) → numbered records r ≡ Some head → class_in xs (edited records r (head_with None)) r ≡ aggregation_class_in xs head.aggregation
record_container xs records r head e = class_above xs (edited records r (head_with None)) r (head_with None head) (changed_there records r (head_with None) head e) refl

-- ---- an aggregation

pub aggregation_given : (xs : List Aggregation) (a : ℕ) (it : Aggregation) (c : List ℕ) → 0 < a → numbered xs a ≡ Some it → aggregation_class_in (edited xs a (with_class (Some c))) a ≡ Some c
aggregation_given xs a it c low e = walk_here (edited xs a (with_class (Some c))) a (with_class (Some c) it) c low (changed_there xs a (with_class (Some c)) it e) refl

-- of those with a lesser number the own classes stay
own_below : (xs : List Aggregation) (a : ℕ) (class : Option (List ℕ)) → ArePlaced xs → (m : ℕ) (o : Option ℕ) → IsWithin m o → m < a → own_classes (edited xs a (with_class class)) (chain xs m o) ≡ own_classes xs (chain xs m o)
unfolding chain
own_below xs a class placed m None within low = refl
own_below xs a class placed zero (Some b) within low = refl
own_below xs a class placed (suc m) (Some b) within low =
    let own : Option Aggregation → Option (List ℕ) = λ o. option_and_then (λ (it : Aggregation). it.class) o in
    let rest = own_below xs a class placed m (above_one xs b) (next_within xs placed b m within.1) (omega arith) in
    elim (kept_or_there xs a b (with_class class)) [
      | inl kept ↦ (λ i. own (kept i) ∷ rest i)
      | inr there ↦ absurd (omega (arith, within.1, low, there))
    ]

step : (xs : List Aggregation) (a : ℕ) (it : Aggregation) → 0 < a → numbered xs a ≡ Some it → chain_of xs a ≡ a ∷ chain xs (a - 1) it.parent
unfolding chain
step xs zero it low e = absurd (omega arith)
step xs (suc k) it low e = let same : k ≡ suc k - 1 = omega arith in ap (λ (o : Option Aggregation). suc k ∷ chain xs k (option_and_then (λ it. it.parent) o)) e ∙ ap (λ n. suc k ∷ chain xs n it.parent) same

-- without an own class, the class is the first of those above
above_it : (xs : List Aggregation) (a : ℕ) (it : Aggregation) → 0 < a → numbered xs a ≡ Some it
    → aggregation_class_in (edited xs a (with_class None)) a ≡ first_some (own_classes (edited xs a (with_class None)) (chain xs (a - 1) it.parent))
unfolding aggregation_class_in
above_it xs a it low e =
    let ys : List Aggregation = edited xs a (with_class None) in
    ap (λ numbers. first_some (own_classes ys numbers)) (chain-edited xs a (with_class None) (λ _. refl) a (Some a) ∙ step xs a it low e)
    ∙ ap (λ (o : Option Aggregation). first_some (option_and_then (λ it. it.class) o ∷ own_classes ys (chain xs (a - 1) it.parent))) (changed_there xs a (with_class None) it e)

pub aggregation_container : (xs : List Aggregation) (a p : ℕ) (it : Aggregation) → ArePlaced xs → 0 < a → numbered xs a ≡ Some it → it.parent ≡ Some p → aggregation_class_in (edited xs a (with_class None)) a ≡ aggregation_class_in xs p
unfolding aggregation_class_in
aggregation_container xs a p it placed low e up =
    let ys : List Aggregation = edited xs a (with_class None) in
    let over = placed_parent a it p up (placed a it e) in
    above_it xs a it low e
    ∙ ap (λ o. first_some (own_classes ys (chain xs (a - 1) o))) up
    ∙ ap first_some (own_below xs a None placed (a - 1) (Some p) (over.0, omega (arith, over.1)) (omega arith))
    ∙ ap (λ numbers. first_some (own_classes xs numbers)) (chain_same xs placed (a - 1) p (Some p) (over.0, omega (arith, over.1)) (over.0, omega arith))

pub aggregation_root : (xs : List Aggregation) (a : ℕ) (it : Aggregation) → 0 < a → numbered xs a ≡ Some it → it.parent ≡ None → aggregation_class_in (edited xs a (with_class None)) a ≡ None
unfolding chain
aggregation_root xs a it low e root =
    let ys : List Aggregation = edited xs a (with_class None) in
    above_it xs a it low e ∙ ap (λ o. first_some (own_classes ys (chain xs (a - 1) o))) root

-- ---- what is not there

past : {A : Type 0} (xs : List A) (i : ℕ) → length xs ≤ i → slice_get xs i ≡ None
past [] i h = refl
past (x ∷ xs) zero h = absurd (omega arith)
past (x ∷ xs) (suc i) h = past xs i (omega arith)

outside : (n k : ℕ) → (nat_le 1 (suc n) && nat_le (suc n) k) ≡ false → k ≤ n
outside n k e = grind (arith, nat_tests)

none_numbered : {A : Type 0} (xs : List A) (n : ℕ) → (nat_le 1 n && nat_le n (length xs)) ≡ false → numbered xs n ≡ None
none_numbered xs zero e = refl
none_numbered xs (suc n) e = past xs n (outside n (length xs) e)

pub no_record : (tree : TreeState) (r : ℕ) → has_record tree r ≡ false → class_of tree r ≡ None
unfolding class_in above_in
no_record tree r none = ap (λ (o : Option Record). first_some (own_class o ∷ own_classes tree.aggregations (above_head tree.aggregations o))) (none_numbered tree.records r none)

pub no_aggregation : (tree : TreeState) (a : ℕ) → has_aggregation tree a ≡ false → aggregation_class_of tree a ≡ None
unfolding aggregation_class_in chain
no_aggregation tree zero none = refl
no_aggregation tree (suc n) none =
    let xs = tree.aggregations in
    ap (λ (o : Option Aggregation). first_some (option_and_then (λ it. it.class) o ∷ own_classes xs (chain xs n (option_and_then (λ it. it.parent) o)))) (none_numbered xs (suc n) none)
