-- A record that is held is held after a reclassification by which no held class is left.
use Rattle.std.proofs.Common.{◌≡◌, ℕ, zero, suc, ◌<◌, ◌≤◌, Bool, true, false, List, [], ◌∷◌, Option, Some, None, refl, sym, ap, ◌∙◌, arith, ◌⊎◌, inl, inr}
use Rattle.std.specs.Prelude.{slice_get, ◌&&◌, ◌||◌, not}
use Rattle.std.specs.Option.{option_and_then}
use Rattle.std.specs.List.{list_any}
use Rattle.std.specs.Str.{bytes_eq}
use Rattle.std.specs.FinMap.{values}
use Rattle.std.specs.FinSet.{contains}
use Rattle.std.proofs.lemmas.Slice.Eq.{bytes_eq-Decides}
use Rattle.office_records.specs.Conditions.{first_of, conditions_of_reclassify}
use Rattle.office_records.specs.Effects.{reclassified}
use Rattle.office_records.specs.Lists.{numbered, edited, edited_at, first_some, is_some_and}
use Rattle.office_records.specs.Sound.{IsSound}
use Rattle.office_records.specs.Tree.{TreeState, chain, own_classes, aggregation_class_in, class_in, above_in, above_head}
use Rattle.office_records.specs.declared.aggregation.Aggregation.{Aggregation}
use Rattle.office_records.specs.declared.classified.Classified.{Classified}
use Rattle.office_records.specs.declared.classified.Classified.TheVariants as classified
use Rattle.office_records.specs.declared.head.Record.{Record}
use Rattle.office_records.proofs.Accepting.{neither}
use Rattle.office_records.proofs.Walk.{ArePlaced, placed_in, chain_same, chain-edited}
use Rattle.office_rules.specs.HoldConditions.{would_leave_held_class}
use Rattle.office_rules.specs.Holds.{HoldMap, is_in_force, hold_covers, held_in, is_held, is_held_class}
use Rattle.office_rules.proofs.LastingHolds.{either_more, held_more, class_of_none, own_class, above-with_head, above-edited, same_head, IsWithin, above_one, next_within, AggregationFits, aggregation_fits}

-- ---- a class that is left and not held

any_left : {A : Type 0} (p q test : A → Bool) → ((x : A) → p x ≡ true → test x ≡ false → q x ≡ true) → (xs : List A) → list_any p xs ≡ true → list_any test xs ≡ false → list_any q xs ≡ true
any_left p q test gives [] e none = e
any_left p q test gives (x ∷ xs) e none =
    let apart = neither (test x) (list_any test xs) none in
    either_more (p x) (q x) (list_any p xs) (list_any q xs) (λ passes. gives x passes apart.0) (λ rest. any_left p q test gives xs rest apart.1) e

without : (force others old new : Bool) → (force && (others || old)) ≡ true → (force && old) ≡ false → (force && (others || new)) ≡ true
without true true old new e none = refl
without true false old new e none = absurd cc
without false others old new e none = absurd cc

held_without : (holds : HoldMap) (r : ℕ) (numbers : List ℕ) (old : List ℕ) (new : Option (List ℕ)) → is_held_class holds old ≡ false → held_in holds r numbers (Some old) ≡ true → held_in holds r numbers new ≡ true
unfolding held_in is_held_class
held_without holds r numbers old new none h =
    any_left (λ hold. hold_covers hold r numbers (Some old)) (λ hold. hold_covers hold r numbers new) (λ hold. is_in_force hold && contains hold.classes old)
    (λ hold. without (is_in_force hold) (contains hold.records r || list_any (contains hold.aggregations) numbers) (contains hold.classes old) (is_some_and new (contains hold.classes))) (values holds) h none

-- a held class is left for another or for none
abbrev leaves_held : HoldMap → Option (List ℕ) → Option (List ℕ) → Bool
leaves_held holds old new = is_some_and old (λ code. not (is_some_and new (bytes_eq code)) && is_held_class holds code)

held_elsewhere : (holds : HoldMap) (r : ℕ) (numbers : List ℕ) (old new : List ℕ) (b : Bool) → bytes_eq old new ≡ b → (not b && is_held_class holds old) ≡ false → held_in holds r numbers (Some old) ≡ true → held_in holds r numbers (Some new) ≡ true
held_elsewhere holds r numbers old new true e none h = let same : old ≡ new = (bytes_eq-Decides old new).0 e in ap (λ code. held_in holds r numbers (Some code)) (sym same) ∙ h
held_elsewhere holds r numbers old new false e none h = held_without holds r numbers old (Some new) none h

held_leaving : (holds : HoldMap) (r : ℕ) (numbers : List ℕ) (old new : Option (List ℕ)) → leaves_held holds old new ≡ false → held_in holds r numbers old ≡ true → held_in holds r numbers new ≡ true
held_leaving holds r numbers None new none h = held_more holds r numbers numbers None new (λ hold. class_of_none hold r numbers new) h
held_leaving holds r numbers (Some old) None none h = held_without holds r numbers old None none h
held_leaving holds r numbers (Some old) (Some new) none h = held_elsewhere holds r numbers old new (bytes_eq old new) refl none h

-- ---- a change at one number

kept_or_there_at : {A : Type 0} (xs : List A) (i j : ℕ) (f : A → A) → (slice_get (edited_at xs i f) j ≡ slice_get xs j) ⊎ (i ≡ j)
kept_or_there_at [] i j f = inl refl
kept_or_there_at (x ∷ xs) zero zero f = inr refl
kept_or_there_at (x ∷ xs) zero (suc j) f = inl refl
kept_or_there_at (x ∷ xs) (suc i) zero f = inl refl
kept_or_there_at (x ∷ xs) (suc i) (suc j) f = elim (kept_or_there_at xs i j f) [ inl kept ↦ inl kept | inr there ↦ inr (ap suc there) ]

pub kept_or_there : {A : Type 0} (xs : List A) (a b : ℕ) (f : A → A) → (numbered (edited xs a f) b ≡ numbered xs b) ⊎ (a ≡ b)
kept_or_there xs zero b f = inl refl
kept_or_there xs (suc a) zero f = inl refl
kept_or_there xs (suc a) (suc b) f = elim (kept_or_there_at xs a b f) [ inl kept ↦ inl kept | inr there ↦ inr (ap suc there) ]

-- ---- a record is reclassified

abbrev head_with : Option (List ℕ) → Record → Record
head_with class head = record head { class = class }

held_there : (holds : HoldMap) (tree : TreeState) (q : ℕ) (class : Option (List ℕ)) (r : ℕ) → q ≡ r → would_leave_held_class holds tree (classified.Record q) class ≡ false → is_held holds tree r ≡ true → is_held holds (reclassified tree (classified.Record q) class) r ≡ true
held_there holds tree q class r there none h =
    let xs = tree.aggregations in
    let records = tree.records in
    let changed : List Record = edited records q (head_with class) in
    let same : leaves_held holds (class_in xs records q) (class_in xs changed q) ≡ leaves_held holds (class_in xs records r) (class_in xs changed r) =
    ap (λ n. leaves_held holds (class_in xs records n) (class_in xs changed n)) there in
    ap (λ numbers. held_in holds r numbers (class_in xs changed r)) (above-with_head xs records q (head_with class) (λ _. refl) r)
    ∙ held_leaving holds r (above_in xs records r) (class_in xs records r) (class_in xs changed r) (sym same ∙ none) h

held_record : (holds : HoldMap) (tree : TreeState) (q : ℕ) (class : Option (List ℕ)) (r : ℕ) → would_leave_held_class holds tree (classified.Record q) class ≡ false → is_held holds tree r ≡ true → is_held holds (reclassified tree (classified.Record q) class) r ≡ true
held_record holds tree q class r none h =
    elim (kept_or_there tree.records q r (head_with class)) [
      | inl kept ↦ same_head holds tree.aggregations tree.records (edited tree.records q (head_with class)) r kept ∙ h
      | inr there ↦ held_there holds tree q class r there none h
    ]

-- ---- an aggregation is reclassified

abbrev with_class : Option (List ℕ) → Aggregation → Aggregation
with_class class it = record it { class = class }

-- what comes first of the old and of the new is the same, or else what is given
abbrev Follows : List (Option (List ℕ)) → List (Option (List ℕ)) → Option (List ℕ) → Option (List ℕ) → Type 0
Follows olds news old new = (first_some news ≡ first_some olds) ⊎ ((old ≡ first_some olds) × (new ≡ first_some news))

follows_on : (o : Option (List ℕ)) (olds news : List (Option (List ℕ))) (old new : Option (List ℕ)) → Follows olds news old new → Follows (o ∷ olds) (o ∷ news) old new
follows_on None olds news old new follows = follows
follows_on (Some code) olds news old new follows = inl refl

follows_after : (o p : Option (List ℕ)) (olds news : List (Option (List ℕ))) (old new : Option (List ℕ)) → p ≡ o → Follows olds news old new → Follows (o ∷ olds) (p ∷ news) old new
follows_after o p olds news old new same follows =
    elim (follows_on o olds news old new follows) [
      | inl e ↦ inl (ap (λ c. first_some (c ∷ news)) same ∙ e)
      | inr e ↦ inr (e.0, e.1 ∙ ap (λ c. first_some (c ∷ news)) (sym same))
    ]

here_follows : (xs : List Aggregation) (a b m : ℕ) (class : Option (List ℕ)) → ArePlaced xs → a ≡ b → (0 < b) × (b ≤ m)
    → (aggregation_class_in xs a ≡ first_some (own_classes xs (chain xs m (Some b)))) × (aggregation_class_in (edited xs a (with_class class)) a ≡ first_some (own_classes (edited xs a (with_class class)) (chain xs m (Some b))))
unfolding aggregation_class_in
here_follows xs a b m class placed there within =
    let ys : List Aggregation = edited xs a (with_class class) in
    let same : chain xs a (Some a) ≡ chain xs m (Some b) = ap (λ n. chain xs n (Some n)) there ∙ chain_same xs placed b m (Some b) (within.0, omega arith) within in
    (ap (λ numbers. first_some (own_classes xs numbers)) same, ap (λ numbers. first_some (own_classes ys numbers)) (chain-edited xs a (with_class class) (λ _. refl) a (Some a) ∙ same))

-- along a chain either the first own class stays, or it is that of the aggregation that is reclassified, before and after
chain_follows : (xs : List Aggregation) (a : ℕ) (class : Option (List ℕ)) → ArePlaced xs → (m : ℕ) (o : Option ℕ) → IsWithin m o
    → Follows (own_classes xs (chain xs m o)) (own_classes (edited xs a (with_class class)) (chain xs m o)) (aggregation_class_in xs a) (aggregation_class_in (edited xs a (with_class class)) a)
unfolding chain
chain_follows xs a class placed m None within = inl refl
chain_follows xs a class placed zero (Some b) within = inl refl
chain_follows xs a class placed (suc m) (Some b) within =
    let ys : List Aggregation = edited xs a (with_class class) in
    let own : Option Aggregation → Option (List ℕ) = λ o. option_and_then (λ (it : Aggregation). it.class) o in
    elim (kept_or_there xs a b (with_class class)) [
      | inl kept ↦ follows_after (own (numbered xs b)) (own (numbered ys b)) (own_classes xs (chain xs m (above_one xs b))) (own_classes ys (chain xs m (above_one xs b)))
          (aggregation_class_in xs a) (aggregation_class_in ys a) (ap own kept) (chain_follows xs a class placed m (above_one xs b) (next_within xs placed b m within.1))
      | inr there ↦ inr (here_follows xs a b (suc m) class placed there within)
    ]

head_follows : (xs : List Aggregation) (a : ℕ) (class : Option (List ℕ)) → ArePlaced xs → (o : Option Record) → AggregationFits xs o
    → Follows (own_class o ∷ own_classes xs (above_head xs o)) (own_class o ∷ own_classes (edited xs a (with_class class)) (above_head xs o)) (aggregation_class_in xs a) (aggregation_class_in (edited xs a (with_class class)) a)
head_follows xs a class placed None fits = inl refl
head_follows xs a class placed (Some head) fits =
    follows_on head.class _ _ _ _ (chain_follows xs a class placed head.aggregation (Some head.aggregation) (fits.0, omega arith))

class_follows : (xs : List Aggregation) (records : List Record) (a : ℕ) (class : Option (List ℕ)) (r : ℕ) → ArePlaced xs → AggregationFits xs (numbered records r)
    → (class_in (edited xs a (with_class class)) records r ≡ class_in xs records r)
    ⊎ ((aggregation_class_in xs a ≡ class_in xs records r) × (aggregation_class_in (edited xs a (with_class class)) a ≡ class_in (edited xs a (with_class class)) records r))
unfolding class_in above_in
class_follows xs records a class r placed fits =
    let o : Option Record = numbered records r in
    let ys : List Aggregation = edited xs a (with_class class) in
    let above : class_in ys records r ≡ first_some (own_class o ∷ own_classes ys (above_head xs o)) =
    ap (λ numbers. first_some (own_class o ∷ own_classes ys numbers)) (above-edited xs records a (with_class class) (λ _. refl) r) in
    elim (head_follows xs a class placed o fits) [
      | inl e ↦ inl (above ∙ e)
      | inr e ↦ inr (e.0, e.1 ∙ sym above)
    ]

held_aggregation : (holds : HoldMap) (tree : TreeState) (a : ℕ) (class : Option (List ℕ)) (r : ℕ) → IsSound tree → would_leave_held_class holds tree (classified.Aggregation a) class ≡ false → is_held holds tree r ≡ true → is_held holds (reclassified tree (classified.Aggregation a) class) r ≡ true
held_aggregation holds tree a class r sound none h =
    let xs = tree.aggregations in
    let records = tree.records in
    let ys : List Aggregation = edited xs a (with_class class) in
    let above : above_in ys records r ≡ above_in xs records r = above-edited xs records a (with_class class) (λ _. refl) r in
    elim (class_follows xs records a class r (placed_in xs sound.forest sound.names.root_classes) (aggregation_fits tree sound r (numbered records r) refl)) [
      | inl same ↦ (λ i. held_in holds r (above i) (same i)) ∙ h
      | inr same ↦ ap (λ numbers. held_in holds r numbers (class_in ys records r)) above
          ∙ held_leaving holds r (above_in xs records r) (class_in xs records r) (class_in ys records r) (sym (λ i. leaves_held holds (same.0 i) (same.1 i)) ∙ none) h
    ]

pub held-reclassify : (holds : HoldMap) (tree : TreeState) (what : Classified) (class : Option (List ℕ)) (r : ℕ) → IsSound tree → first_of (conditions_of_reclassify tree what class) ≡ None → would_leave_held_class holds tree what class ≡ false → is_held holds tree r ≡ true → is_held holds (reclassified tree what class) r ≡ true
held-reclassify holds tree (classified.Aggregation a) class r sound accepted none h = held_aggregation holds tree a class r sound none h
held-reclassify holds tree (classified.Record q) class r sound accepted none h = held_record holds tree q class r none h
