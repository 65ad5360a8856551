-- A record that is held is held after each act that neither takes a target out of a hold nor lifts one.
use Rattle.std.proofs.Common.{◌≡◌, ℕ, zero, suc, ◌<◌, ◌≤◌, Bool, true, false, cond, List, [], ◌∷◌, ◌++◌, map, length, Option, Some, None, refl, sym, ap, ◌∙◌, arith, ℤ}
use Rattle.std.specs.Prelude.{slice_get, ◌&&◌, ◌||◌}
use Rattle.std.specs.Option.{option_and_then, is_some}
use Rattle.std.specs.List.{list_any}
use Rattle.std.specs.Ordering.{eq_by_cmp}
use Rattle.std.specs.declared.cmp.Ordering.{Ordering}
use Rattle.std.specs.declared.cmp.Ordering.TheVariants.{Less, Equal, Greater}
use Rattle.std.specs.Ordering.{is_eq, nat_cmp}
use Rattle.std.specs.Cmp.{nat_cmp_total}
use Rattle.std.specs.Cmp.Lexicographic.{nat_list_cmp_total}
use Rattle.std.specs.FinMap.{get, entries, insert, values, find, entries-insert, get-entries}
use Rattle.std.specs.FinMap.Entries.{put, by_order}
use Rattle.std.specs.FinSet.{contains, contains-insert}
use Rattle.std.specs.FinSet as set
use Rattle.office_records.specs.Conditions.{first_of}
use Rattle.office_records.specs.Effects.{added_aggregation, closed_aggregation, added_record, with_head, with_record_schedule, confirmed, reviewed, receipted, with_class_schedule, added_schedule, added_class}
use Rattle.office_records.specs.Lists.{numbered, edited, edited_at, first_some, is_some_and, amended_by}
use Rattle.office_records.specs.Sound.{IsSound}
use Rattle.office_records.specs.Tree.{TreeState, code_cmp, chain, chain_of, own_classes, class_in, above_in, above_head}
use Rattle.office_records.specs.declared.action.Action.{Action}
use Rattle.office_records.specs.declared.aggregation.Aggregation.{Aggregation}
use Rattle.office_records.specs.declared.class.Class.{Class}
use Rattle.office_records.specs.declared.head.Record.{Record}
use Rattle.office_records.specs.declared.schedule.Schedule.{Schedule}
use Rattle.office_records.proofs.Accepting.{none_holds}
use Rattle.office_records.proofs.Walk.{ArePlaced, IsWellPlaced, placed_in, placed_parent, chain-edited}
use Rattle.office_rules.specs.HoldConditions.{conditions_of_place_hold}
use Rattle.office_rules.specs.HoldEffects.{placed_hold, new_hold, held_on, with_target}
use Rattle.office_rules.specs.Holds.{HoldMap, HoldState, is_in_force, hold_covers, held_in, is_held}
use Rattle.office_records.specs.declared.target.Target.{Target}
use Rattle.office_records.specs.declared.target.Target.TheVariants as target

-- ---- tests of which one accepts what the other does

or_true : (a : Bool) → (a || true) ≡ true
or_true true = refl
or_true false = refl

pub either_more : (a b c d : Bool) → (a ≡ true → b ≡ true) → (c ≡ true → d ≡ true) → (a || c) ≡ true → (b || d) ≡ true
either_more true b c d f g e = ap (λ z. z || d) (f refl)
either_more false b c d f g e = ap (λ z. b || z) (g e) ∙ or_true b

pub both_more : (a b c d : Bool) → (a ≡ true → b ≡ true) → (c ≡ true → d ≡ true) → (a && c) ≡ true → (b && d) ≡ true
both_more true b c d f g e = ap (λ z. z && d) (f refl) ∙ g e
both_more false b c d f g e = absurd cc

any_more : {A : Type 0} (p q : A → Bool) → ((x : A) → p x ≡ true → q x ≡ true) → (xs : List A) → list_any p xs ≡ true → list_any q xs ≡ true
any_more p q more [] e = e
any_more p q more (x ∷ xs) e = either_more (p x) (q x) (list_any p xs) (list_any q xs) (more x) (any_more p q more xs) e

of_none : (b : Bool) → false ≡ true → b ≡ true
of_none b e = absurd cc

-- one hold covers what another does where each of its parts does
pub covers_if : (x y : HoldState) (r : ℕ) (numbers others : List ℕ) (class other : Option (List ℕ))
    → (is_in_force x ≡ true → is_in_force y ≡ true) → (contains x.records r ≡ true → contains y.records r ≡ true)
    → (list_any (contains x.aggregations) numbers ≡ true → list_any (contains y.aggregations) others ≡ true) → (is_some_and class (contains x.classes) ≡ true → is_some_and other (contains y.classes) ≡ true)
    → hold_covers x r numbers class ≡ true → hold_covers y r others other ≡ true
covers_if x y r numbers others class other force records aggregations classes =
    both_more (is_in_force x) (is_in_force y) _ _ force
    (either_more (contains x.records r || list_any (contains x.aggregations) numbers) (contains y.records r || list_any (contains y.aggregations) others) _ _
    (either_more (contains x.records r) (contains y.records r) _ _ records aggregations) classes)

pub held_more : (holds : HoldMap) (r : ℕ) (numbers others : List ℕ) (class other : Option (List ℕ)) → ((hold : HoldState) → hold_covers hold r numbers class ≡ true → hold_covers hold r others other ≡ true) → held_in holds r numbers class ≡ true → held_in holds r others other ≡ true
unfolding held_in
held_more holds r numbers others class other more e = any_more (λ hold. hold_covers hold r numbers class) (λ hold. hold_covers hold r others other) more (values holds) e

-- ---- what a change of a list leaves

-- a reading that does not see the change
pub seen_edited_at : {A B : Type 0} (g : Option A → B) (xs : List A) (i j : ℕ) (f : A → A) → ((x : A) → g (Some (f x)) ≡ g (Some x)) → g (slice_get (edited_at xs i f) j) ≡ g (slice_get xs j)
seen_edited_at g [] i j f keeps = refl
seen_edited_at g (x ∷ xs) zero zero f keeps = keeps x
seen_edited_at g (x ∷ xs) zero (suc j) f keeps = refl
seen_edited_at g (x ∷ xs) (suc i) zero f keeps = refl
seen_edited_at g (x ∷ xs) (suc i) (suc j) f keeps = seen_edited_at g xs i j f keeps

pub seen_edited : {A B : Type 0} (g : Option A → B) (xs : List A) (a b : ℕ) (f : A → A) → ((x : A) → g (Some (f x)) ≡ g (Some x)) → g (numbered (edited xs a f) b) ≡ g (numbered xs b)
seen_edited g xs zero b f keeps = refl
seen_edited g xs (suc a) zero f keeps = refl
seen_edited g xs (suc a) (suc b) f keeps = seen_edited_at g xs a b f keeps

slice_get_pushed : {A : Type 0} (xs : List A) (x : A) (i : ℕ) (y : A) → slice_get xs i ≡ Some y → slice_get (xs ++ x ∷ []) i ≡ Some y
slice_get_pushed [] x i y e = absurd cc
slice_get_pushed (z ∷ zs) x zero y e = e
slice_get_pushed (z ∷ zs) x (suc i) y e = slice_get_pushed zs x i y e

numbered_pushed : {A : Type 0} (xs : List A) (x : A) (n : ℕ) (y : A) → numbered xs n ≡ Some y → numbered (xs ++ x ∷ []) n ≡ Some y
numbered_pushed xs x zero y e = e
numbered_pushed xs x (suc n) y e = slice_get_pushed xs x n y e

slice_get_same : {A : Type 0} (xs : List A) (x : A) (i : ℕ) → i < length xs → slice_get (xs ++ x ∷ []) i ≡ slice_get xs i
slice_get_same [] x i h = absurd (omega arith)
slice_get_same (y ∷ ys) x zero h = refl
slice_get_same (y ∷ ys) x (suc i) h = slice_get_same ys x i (omega arith)

numbered_same : {A : Type 0} (xs : List A) (x : A) (n : ℕ) → n ≤ length xs → numbered (xs ++ x ∷ []) n ≡ numbered xs n
numbered_same xs x zero h = refl
numbered_same xs x (suc n) h = slice_get_same xs x n (omega arith)

-- ---- the acts on a record's head

abbrev pub own_class : Option Record → Option (List ℕ)
own_class o = option_and_then (λ (head : Record). head.class) o

pub above-with_head : (xs : List Aggregation) (records : List Record) (q : ℕ) (f : Record → Record) → ((head : Record) → (f head).aggregation ≡ head.aggregation) → (r : ℕ) → above_in xs (edited records q f) r ≡ above_in xs records r
unfolding above_in
above-with_head xs records q f containers r = seen_edited (above_head xs) records q r f (λ x. ap (chain_of xs) (containers x))

pub class-with_head : (xs : List Aggregation) (records : List Record) (q : ℕ) (f : Record → Record) → ((head : Record) → (f head).aggregation ≡ head.aggregation) → ((head : Record) → (f head).class ≡ head.class) → (r : ℕ) → class_in xs (edited records q f) r ≡ class_in xs records r
unfolding class_in
class-with_head xs records q f containers classes r =
    λ i. first_some (seen_edited own_class records q r f classes i ∷ own_classes xs (above-with_head xs records q f containers r i))

pub held-with_head : (holds : HoldMap) (tree : TreeState) (q : ℕ) (f : Record → Record) → ((head : Record) → (f head).aggregation ≡ head.aggregation) → ((head : Record) → (f head).class ≡ head.class) → (r : ℕ) → is_held holds (with_head tree q f) r ≡ is_held holds tree r
held-with_head holds tree q f containers classes r =
    λ i. held_in holds r (above-with_head tree.aggregations tree.records q f containers r i) (class-with_head tree.aggregations tree.records q f containers classes r i)

pub held-set_record_schedule : (holds : HoldMap) (tree : TreeState) (q : ℕ) (schedule : Option (List ℕ)) (r : ℕ) → is_held holds tree r ≡ true → is_held holds (with_record_schedule tree q schedule) r ≡ true
held-set_record_schedule holds tree q schedule r e = held-with_head holds tree q (λ head. record head { schedule = schedule }) (λ _. refl) (λ _. refl) r ∙ e

pub held-confirm : (holds : HoldMap) (tree : TreeState) (day : ℤ) (q : ℕ) (named : Action) (by : List ℕ) (r : ℕ) → is_held holds tree r ≡ true → is_held holds (confirmed tree day q named by) r ≡ true
held-confirm holds tree day q named by r e = held-with_head holds tree q _ (λ _. refl) (λ _. refl) r ∙ e

pub held-review : (holds : HoldMap) (tree : TreeState) (day : ℤ) (q : ℕ) (schedule : Option (List ℕ)) (by : List ℕ) (r : ℕ) → is_held holds tree r ≡ true → is_held holds (reviewed tree day q schedule by) r ≡ true
held-review holds tree day q schedule by r e = held-with_head holds tree q _ (λ _. refl) (λ _. refl) r ∙ e

pub held-receipt : (holds : HoldMap) (tree : TreeState) (day : ℤ) (q : ℕ) (by : List ℕ) (r : ℕ) → is_held holds tree r ≡ true → is_held holds (receipted tree day q by) r ≡ true
held-receipt holds tree day q by r e =
    held-with_head holds tree q (λ head. record head { receipt = Some (record { day = day; by = by }) }) (λ _. refl) (λ _. refl) r ∙ e

-- ---- the acts on schedules and classes

pub held-add_schedule : (holds : HoldMap) (tree : TreeState) (code : List ℕ) (schedule : Schedule) (r : ℕ) → is_held holds tree r ≡ true → is_held holds (added_schedule tree code schedule) r ≡ true
held-add_schedule holds tree code schedule r e = e

pub held-add_class : (holds : HoldMap) (tree : TreeState) (code : List ℕ) (class : Class) (r : ℕ) → is_held holds tree r ≡ true → is_held holds (added_class tree code class) r ≡ true
held-add_class holds tree code class r e = e

pub held-set_class_schedule : (holds : HoldMap) (tree : TreeState) (class schedule : List ℕ) (r : ℕ) → is_held holds tree r ≡ true → is_held holds (with_class_schedule tree class schedule) r ≡ true
held-set_class_schedule holds tree class schedule r e = e

-- ---- closing

own_classes-edited : (xs : List Aggregation) (a : ℕ) (f : Aggregation → Aggregation) → ((it : Aggregation) → (f it).class ≡ it.class) → (numbers : List ℕ) → own_classes (edited xs a f) numbers ≡ own_classes xs numbers
own_classes-edited xs a f keeps [] = refl
own_classes-edited xs a f keeps (b ∷ bs) =
    λ i. seen_edited (λ (o : Option Aggregation). option_and_then (λ (x : Aggregation). x.class) o) xs a b f keeps i ∷ own_classes-edited xs a f keeps bs i

above_head-edited : (xs : List Aggregation) (a : ℕ) (f : Aggregation → Aggregation) → ((it : Aggregation) → (f it).parent ≡ it.parent) → (o : Option Record) → above_head (edited xs a f) o ≡ above_head xs o
above_head-edited xs a f keeps None = refl
above_head-edited xs a f keeps (Some head) = chain-edited xs a f keeps head.aggregation (Some head.aggregation)

pub above-edited : (xs : List Aggregation) (records : List Record) (a : ℕ) (f : Aggregation → Aggregation) → ((it : Aggregation) → (f it).parent ≡ it.parent) → (r : ℕ) → above_in (edited xs a f) records r ≡ above_in xs records r
unfolding above_in
above-edited xs records a f keeps r = above_head-edited xs a f keeps (numbered records r)

class-edited : (xs : List Aggregation) (records : List Record) (a : ℕ) (f : Aggregation → Aggregation) → ((it : Aggregation) → (f it).parent ≡ it.parent) → ((it : Aggregation) → (f it).class ≡ it.class) → (r : ℕ) → class_in (edited xs a f) records r ≡ class_in xs records r
unfolding class_in
class-edited xs records a f parents classes r =
    ap (λ numbers. first_some (own_class (numbered records r) ∷ own_classes (edited xs a f) numbers)) (above-edited xs records a f parents r)
    ∙ ap (λ rest. first_some (own_class (numbered records r) ∷ rest)) (own_classes-edited xs a f classes (above_in xs records r))

pub held-close_aggregation : (holds : HoldMap) (tree : TreeState) (a : ℕ) (day : ℤ) (r : ℕ) → is_held holds tree r ≡ true → is_held holds (closed_aggregation tree a day) r ≡ true
held-close_aggregation holds tree a day r e =
    let f : Aggregation → Aggregation = λ it. record it { closed = Some day } in
    (λ i. held_in holds r (above-edited tree.aggregations tree.records a f (λ _. refl) r i) (class-edited tree.aggregations tree.records a f (λ _. refl) (λ _. refl) r i)) ∙ e

-- ---- a new record

pub class_of_none : (hold : HoldState) (r : ℕ) (numbers : List ℕ) (other : Option (List ℕ)) → hold_covers hold r numbers None ≡ true → hold_covers hold r numbers other ≡ true
class_of_none hold r numbers other = covers_if hold hold r numbers numbers None other (λ e. e) (λ e. e) (λ e. e) (of_none (is_some_and other (contains hold.classes)))

alone : (hold : HoldState) (r : ℕ) (others : List ℕ) (other : Option (List ℕ)) → hold_covers hold r [] None ≡ true → hold_covers hold r others other ≡ true
alone hold r others other =
    covers_if hold hold r [] others None other (λ e. e) (λ e. e) (of_none (list_any (contains hold.aggregations) others)) (of_none (is_some_and other (contains hold.classes)))

-- held in a tree of these aggregations and records
abbrev pub held_of : HoldMap → List Aggregation → List Record → ℕ → Bool
held_of holds xs records r = held_in holds r (above_in xs records r) (class_in xs records r)

-- a number that is not there is held by its own number at most
held_alone : (holds : HoldMap) (xs : List Aggregation) (records : List Record) (r : ℕ) (others : List ℕ) (other : Option (List ℕ)) → numbered records r ≡ None → held_of holds xs records r ≡ true → held_in holds r others other ≡ true
unfolding above_in class_in
held_alone holds xs records r others other e h =
    held_more holds r [] others None other (λ hold. alone hold r others other) (sym (λ i. held_in holds r (above_head xs (e i)) (first_some (own_class (e i) ∷ own_classes xs (above_head xs (e i))))) ∙ h)

pub same_head : (holds : HoldMap) (xs : List Aggregation) (records others : List Record) (r : ℕ) → numbered others r ≡ numbered records r → held_of holds xs others r ≡ held_of holds xs records r
unfolding above_in class_in
same_head holds xs records others r e = λ i. held_in holds r (above_head xs (e i)) (first_some (own_class (e i) ∷ own_classes xs (above_head xs (e i))))

held_pushed : (holds : HoldMap) (xs : List Aggregation) (records : List Record) (head : Record) (r : ℕ) (o : Option Record) → numbered records r ≡ o → held_of holds xs records r ≡ true → held_of holds xs (records ++ head ∷ []) r ≡ true
held_pushed holds xs records head r None e h = held_alone holds xs records r _ _ e h
held_pushed holds xs records head r (Some old) e h = same_head holds xs records (records ++ head ∷ []) r (numbered_pushed records head r old e ∙ sym e) ∙ h

pub held-add_record : (holds : HoldMap) (tree : TreeState) (head : Record) (r : ℕ) → is_held holds tree r ≡ true → is_held holds (added_record tree head) r ≡ true
held-add_record holds tree head r h = held_pushed holds tree.aggregations tree.records head r (numbered tree.records r) refl h

-- ---- a new aggregation

abbrev pub IsWithin : ℕ → Option ℕ → Type 0
IsWithin k None = Unit {0}
IsWithin k (Some p) = (0 < p) × (p ≤ k)

parent_is_within : (a k : ℕ) (it : Aggregation) (p : Option ℕ) → a ≤ suc k → it.parent ≡ p → IsWellPlaced a it → IsWithin k p
parent_is_within a k it None h e w = tt
parent_is_within a k it (Some p) h e w = let placed = placed_parent a it p e w in (placed.0, omega (arith, placed.1))

abbrev pub above_one : List Aggregation → ℕ → Option ℕ
above_one xs a = option_and_then (λ (it : Aggregation). it.parent) (numbered xs a)

next_is_within : (xs : List Aggregation) → ArePlaced xs → (a k : ℕ) (o : Option Aggregation) → a ≤ suc k → numbered xs a ≡ o → IsWithin k (option_and_then (λ (it : Aggregation). it.parent) o)
next_is_within xs placed a k None h e = tt
next_is_within xs placed a k (Some it) h e = parent_is_within a k it it.parent h refl (placed a it e)

pub next_within : (xs : List Aggregation) → ArePlaced xs → (a k : ℕ) → a ≤ suc k → IsWithin k (above_one xs a)
next_within xs placed a k h = next_is_within xs placed a k (numbered xs a) h refl

chain_same_pushed : (xs : List Aggregation) (x : Aggregation) → ArePlaced xs → (m : ℕ) (o : Option ℕ) → IsWithin (length xs) o → chain (xs ++ x ∷ []) m o ≡ chain xs m o
unfolding chain
chain_same_pushed xs x placed m None w = refl
chain_same_pushed xs x placed zero (Some a) w = refl
chain_same_pushed xs x placed (suc m) (Some a) w =
    ap (λ o. a ∷ chain (xs ++ x ∷ []) m (option_and_then (λ (it : Aggregation). it.parent) o)) (numbered_same xs x a w.1)
    ∙ ap (λ rest. a ∷ rest) (chain_same_pushed xs x placed m (above_one xs a) (next_within xs placed a (length xs) (omega (arith, w.1))))

own_classes_same_pushed : (xs : List Aggregation) (x : Aggregation) → ArePlaced xs → (m : ℕ) (o : Option ℕ) → IsWithin (length xs) o → own_classes (xs ++ x ∷ []) (chain xs m o) ≡ own_classes xs (chain xs m o)
unfolding chain
own_classes_same_pushed xs x placed m None w = refl
own_classes_same_pushed xs x placed zero (Some a) w = refl
own_classes_same_pushed xs x placed (suc m) (Some a) w =
    λ i. option_and_then (λ (it : Aggregation). it.class) (numbered_same xs x a w.1 i)
    ∷ own_classes_same_pushed xs x placed m (above_one xs a) (next_within xs placed a (length xs) (omega (arith, w.1))) i

-- the aggregation of a record that is there
abbrev pub AggregationFits : List Aggregation → Option Record → Type 0
AggregationFits xs None = Unit {0}
AggregationFits xs (Some head) = (0 < head.aggregation) × (head.aggregation ≤ length xs)

pub aggregation_fits : (tree : TreeState) → IsSound tree → (r : ℕ) (o : Option Record) → numbered tree.records r ≡ o → AggregationFits tree.aggregations o
aggregation_fits tree sound r None e = tt
aggregation_fits tree sound r (Some head) e = sound.names.containers r head e

above_pushed : (xs : List Aggregation) (x : Aggregation) → ArePlaced xs → (o : Option Record) → AggregationFits xs o → above_head (xs ++ x ∷ []) o ≡ above_head xs o
above_pushed xs x placed None w = refl
above_pushed xs x placed (Some head) w = chain_same_pushed xs x placed head.aggregation (Some head.aggregation) w

classes_pushed : (xs : List Aggregation) (x : Aggregation) → ArePlaced xs → (o : Option Record) → AggregationFits xs o → own_classes (xs ++ x ∷ []) (above_head xs o) ≡ own_classes xs (above_head xs o)
classes_pushed xs x placed None w = refl
classes_pushed xs x placed (Some head) w = own_classes_same_pushed xs x placed head.aggregation (Some head.aggregation) w

held_in_pushed : (holds : HoldMap) (xs : List Aggregation) (x : Aggregation) (records : List Record) (r : ℕ) → ArePlaced xs → AggregationFits xs (numbered records r) → held_of holds (xs ++ x ∷ []) records r ≡ held_of holds xs records r
unfolding above_in class_in
held_in_pushed holds xs x records r placed w =
    let o : Option Record = numbered records r in
    ap (λ numbers. held_in holds r numbers (first_some (own_class o ∷ own_classes (xs ++ x ∷ []) numbers))) (above_pushed xs x placed o w)
    ∙ ap (λ classes. held_in holds r (above_head xs o) (first_some (own_class o ∷ classes))) (classes_pushed xs x placed o w)

pub held-add_aggregation : (holds : HoldMap) (tree : TreeState) (ref_text title : List ℕ) (parent : Option ℕ) (class : Option (List ℕ)) (r : ℕ) → IsSound tree → is_held holds tree r ≡ true → is_held holds (added_aggregation tree ref_text title parent class) r ≡ true
held-add_aggregation holds tree ref_text title parent class r sound h =
    held_in_pushed holds tree.aggregations (record { ref_text = ref_text; title = title; parent = parent; class = class; closed = None }) tree.records r
    (placed_in tree.aggregations sound.forest sound.names.root_classes) (aggregation_fits tree sound r (numbered tree.records r) refl)
    ∙ h

-- ---- the acts on holds

-- what is put at a key passes where what was there did
put_keeps : {K V : Type 0} (R : K → K → Ordering) (test : V → Bool) (k : K) (v : V) (es : List (K × V)) → ((x : V) → find R k es ≡ Some x → test x ≡ true → test v ≡ true) → list_any test (map (λ e. e.1) es) ≡ true → list_any test (map (λ e. e.1) (put R k v es)) ≡ true
put_keeps R test k v [] keeps h = absurd cc
put_keeps {K} {V} R test k v (e ∷ es) keeps h =
    elim (R k e.0) as (λ o. R k e.0 ≡ o → list_any test (map (λ (f : K × V). f.1) (by_order o ((k, v) ∷ e ∷ es) ((e.0, v) ∷ es) (e ∷ put R k v es))) ≡ true) [
      | Less ↦ λ _. ap (λ b. test v || b) h ∙ or_true (test v)
      | Equal ↦ λ t. either_more (test e.1) (test v) (list_any test (map (λ (f : K × V). f.1) es)) _ (keeps e.1 (ap (λ o. cond (is_eq o) (Some e.1) (find R k es)) t)) (λ p. p) h
      | Greater ↦ λ t. either_more (test e.1) (test e.1) (list_any test (map (λ (f : K × V). f.1) es)) _ (λ p. p)
          (put_keeps R test k v es (λ x found. keeps x (ap (λ o. cond (is_eq o) (Some e.1) (find R k es)) t ∙ found))) h
    ] refl

held_put : (holds : HoldMap) (code : List ℕ) (new : HoldState) (r : ℕ) (numbers : List ℕ) (class : Option (List ℕ)) → ((x : HoldState) → get holds code ≡ Some x → hold_covers x r numbers class ≡ true → hold_covers new r numbers class ≡ true) → held_in holds r numbers class ≡ true → held_in (insert holds code new) r numbers class ≡ true
unfolding held_in
held_put holds code new r numbers class keeps h =
    let test : HoldState → Bool = λ hold. hold_covers hold r numbers class in
    ap (λ es. list_any test (map (λ (e : List ℕ × HoldState). e.1) es)) (entries-insert nat_list_cmp_total holds code new)
    ∙ put_keeps code_cmp test code new (entries holds) (λ x found. keeps x (get-entries holds code ∙ found)) h

none_there : (o : Option HoldState) (x : HoldState) (P : Type 0) → is_some o ≡ false → o ≡ Some x → P
none_there None x P free e = absurd cc
none_there (Some y) x P free e = absurd cc

pub held-place_hold : (holds : HoldMap) (tree : TreeState) (day : ℤ) (code reason by : List ℕ) (r : ℕ) → first_of (conditions_of_place_hold holds code) ≡ None → is_held holds tree r ≡ true → is_held (placed_hold holds day code reason by) tree r ≡ true
held-place_hold holds tree day code reason by r accepted h =
    let free = (none_holds (conditions_of_place_hold holds code) accepted).0 in
    held_put holds code (new_hold day reason by) r _ _ (λ x found _. none_there (get holds code) x _ free found) h

more_items : (b : Bool) (c : Bool) → c ≡ true → (b || c) ≡ true
more_items b c e = ap (λ z. b || z) e ∙ or_true b

kept_number : (s : set.FinSet nat_cmp) (k n : ℕ) → contains s n ≡ true → contains (set.insert s k) n ≡ true
kept_number s k n e = contains-insert nat_cmp_total s k n ∙ more_items (eq_by_cmp nat_cmp n k) (contains s n) e

kept_code : (s : set.FinSet code_cmp) (k c : List ℕ) → contains s c ≡ true → contains (set.insert s k) c ≡ true
kept_code s k c e = contains-insert nat_list_cmp_total s k c ∙ more_items (eq_by_cmp code_cmp c k) (contains s c) e

kept_class : (s : set.FinSet code_cmp) (k : List ℕ) (class : Option (List ℕ)) → is_some_and class (contains s) ≡ true → is_some_and class (contains (set.insert s k)) ≡ true
kept_class s k None e = e
kept_class s k (Some c) e = kept_code s k c e

-- a hold covers with one more target what it covered
covers_more : (t : Target) (hold : HoldState) (r : ℕ) (numbers : List ℕ) (class : Option (List ℕ)) → hold_covers hold r numbers class ≡ true → hold_covers (with_target t hold) r numbers class ≡ true
covers_more (target.Class code) hold r numbers class =
    covers_if hold (with_target (target.Class code) hold) r numbers numbers class class (λ e. e) (λ e. e) (λ e. e) (kept_class hold.classes code class)
covers_more (target.Aggregation a) hold r numbers class =
    covers_if hold (with_target (target.Aggregation a) hold) r numbers numbers class class (λ e. e) (λ e. e)
    (any_more (contains hold.aggregations) (contains (set.insert hold.aggregations a)) (kept_number hold.aggregations a) numbers) (λ e. e)
covers_more (target.Record q) hold r numbers class =
    covers_if hold (with_target (target.Record q) hold) r numbers numbers class class (λ e. e) (kept_number hold.records q r) (λ e. e) (λ e. e)

one_hold : (x hold : HoldState) → Some x ≡ Some hold → (r : ℕ) (numbers : List ℕ) (class : Option (List ℕ)) → hold_covers x r numbers class ≡ true → hold_covers hold r numbers class ≡ true
one_hold x hold same r numbers class covers = let is : hold ≡ x = cc in ap (λ (y : HoldState). hold_covers y r numbers class) is ∙ covers

held_amended : (holds : HoldMap) (code : List ℕ) (t : Target) (o : Option HoldState) (r : ℕ) (numbers : List ℕ) (class : Option (List ℕ)) → get holds code ≡ o → held_in holds r numbers class ≡ true → held_in (amended_by holds code (with_target t) o) r numbers class ≡ true
held_amended holds code t None r numbers class e h = h
held_amended holds code t (Some hold) r numbers class e h =
    held_put holds code (with_target t hold) r numbers class (λ x found covers. covers_more t hold r numbers class (one_hold x hold (sym found ∙ e) r numbers class covers)) h

pub held-hold_on : (holds : HoldMap) (tree : TreeState) (code : List ℕ) (t : Target) (r : ℕ) → is_held holds tree r ≡ true → is_held (held_on holds code t) tree r ≡ true
held-hold_on holds tree code t r h = held_amended holds code t (get holds code) r _ _ refl h
