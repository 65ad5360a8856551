-- The walk from a record up to the nearest class.
use Rattle.std.proofs.Common.{◌≡◌, ℕ, zero, suc, ◌+◌, ◌-◌, ◌<◌, ◌≤◌, List, [], ◌∷◌, ◌++◌, length, length-append, Option, Some, None, refl, ap, ◌∙◌, arith, ◌⊎◌, inl, inr}
use Rattle.std.specs.Prelude.{slice_get, IsSome}
use Rattle.std.specs.Option.{option_and_then, unwrap_or, IfSome, MatchOption}
use Rattle.office_records.specs.Lists.{numbered, edited, edited_at, first_some}
use Rattle.office_records.specs.Sound.{IsForest, RootsHaveClasses}
use Rattle.office_records.specs.Tree.{chain, chain_of, own_classes, aggregation_class_in, class_in, above_in, above_head}
use Rattle.office_records.specs.declared.aggregation.Aggregation.{Aggregation}
use Rattle.office_records.specs.declared.head.Record.{Record}

-- a root has a class, and a parent's number is below its child's
abbrev pub IsWellPlaced : ℕ → Aggregation → Type 0
IsWellPlaced a it = MatchOption it.parent (IsSome it.class) (λ p. (0 < p) × (p < a))

abbrev pub ArePlaced : List Aggregation → Type 0
ArePlaced aggregations = (a : ℕ) (it : Aggregation) → numbered aggregations a ≡ Some it → IsWellPlaced a it

well_placed : (a : ℕ) (it : Aggregation) (parent : Option ℕ) → (parent ≡ None → IsSome it.class) → ((p : ℕ) → parent ≡ Some p → (0 < p) × (p < a)) → MatchOption parent (IsSome it.class) (λ p. (0 < p) × (p < a))
well_placed a it None root low = root refl
well_placed a it (Some p) root low = low p refl

-- the aggregations of a forest whose roots have classes are well placed
pub placed_in : (aggregations : List Aggregation) → IsForest aggregations → RootsHaveClasses aggregations → ArePlaced aggregations
placed_in aggregations forest roots a it e = well_placed a it it.parent (roots a it e) (λ p up. forest.below a p it e up)

abbrev parent_of : Option Aggregation → Option ℕ
parent_of o = option_and_then (λ it. it.parent) o

abbrev Within : ℕ → Option ℕ → Type 0
Within k None = Unit {0}
Within k (Some p) = (0 < p) × (p ≤ k)

within_parent : (a k : ℕ) (it : Aggregation) (p : Option ℕ) → a ≤ suc k → it.parent ≡ p → IsWellPlaced a it → Within k p
within_parent a k it None h e w = tt
within_parent a k it (Some p) h e w = let placed = rw e at w in (placed.0, omega (arith, placed.1))

parent_within : (aggregations : List Aggregation) → ArePlaced aggregations → (a k : ℕ) (o : Option Aggregation) → a ≤ suc k → numbered aggregations a ≡ o → Within k (parent_of o)
parent_within aggregations placed a k None h e = tt
parent_within aggregations placed a k (Some it) h e = within_parent a k it it.parent h refl (placed a it e)

-- more steps than the number lead no further
pub chain_same : (aggregations : List Aggregation) → ArePlaced aggregations → (m n : ℕ) (o : Option ℕ) → Within m o → Within n o → chain aggregations m o ≡ chain aggregations n o
unfolding chain
chain_same aggregations placed m n None a b = refl
chain_same aggregations placed zero n (Some p) (low, high) b = absurd (omega arith)
chain_same aggregations placed (suc m) zero (Some p) a (low, high) = absurd (omega arith)
chain_same aggregations placed (suc m) (suc n) (Some p) a b =
    ap (λ rest. p ∷ rest) (chain_same aggregations placed m n (parent_of (numbered aggregations p)) (parent_within aggregations placed p m _ a.1 refl) (parent_within aggregations placed p n _ b.1 refl))

chain_step : (aggregations : List Aggregation) (a : ℕ) (it : Aggregation) → 0 < a → numbered aggregations a ≡ Some it → chain_of aggregations a ≡ a ∷ chain aggregations (a - 1) it.parent
unfolding chain
chain_step aggregations zero it low e = absurd (omega arith)
chain_step aggregations (suc k) it low e = let same : k ≡ suc k - 1 = omega arith in ap (λ o. suc k ∷ chain aggregations k (parent_of o)) e ∙ ap (λ n. suc k ∷ chain aggregations n it.parent) same

pub walk_here : (aggregations : List Aggregation) (a : ℕ) (it : Aggregation) (c : List ℕ) → 0 < a → numbered aggregations a ≡ Some it → it.class ≡ Some c → aggregation_class_in aggregations a ≡ Some c
unfolding aggregation_class_in
walk_here aggregations a it c low e own =
    ap (λ numbers. first_some (own_classes aggregations numbers)) (chain_step aggregations a it low e)
    ∙ ap (λ o. first_some (option_and_then (λ (x : Aggregation). x.class) o ∷ own_classes aggregations (chain aggregations (a - 1) it.parent))) e
    ∙ ap (λ o. first_some (o ∷ own_classes aggregations (chain aggregations (a - 1) it.parent))) own

pub walk_on : (aggregations : List Aggregation) → ArePlaced aggregations → (a p : ℕ) (it : Aggregation) → 0 < a → numbered aggregations a ≡ Some it → it.class ≡ None → it.parent ≡ Some p → aggregation_class_in aggregations a ≡ aggregation_class_in aggregations p
unfolding aggregation_class_in
walk_on aggregations placed a p it low e own up =
    let w = rw up at (placed a it e) in
    ap (λ numbers. first_some (own_classes aggregations numbers)) (chain_step aggregations a it low e)
    ∙ ap (λ o. first_some (option_and_then (λ (x : Aggregation). x.class) o ∷ own_classes aggregations (chain aggregations (a - 1) it.parent))) e
    ∙ ap (λ o. first_some (o ∷ own_classes aggregations (chain aggregations (a - 1) it.parent))) own
    ∙ ap (λ o. first_some (own_classes aggregations (chain aggregations (a - 1) o))) up
    ∙ ap (λ numbers. first_some (own_classes aggregations numbers)) (chain_same aggregations placed (a - 1) p (Some p) (w.0, omega (arith, w.1)) (w.0, omega arith))

pub class_own : (aggregations : List Aggregation) (records : List Record) (r : ℕ) (head : Record) (c : List ℕ) → numbered records r ≡ Some head → head.class ≡ Some c → class_in aggregations records r ≡ Some c
unfolding class_in
class_own aggregations records r head c e own =
    ap (λ o. first_some (option_and_then (λ (x : Record). x.class) o ∷ own_classes aggregations (above_in aggregations records r))) e
    ∙ ap (λ o. first_some (o ∷ own_classes aggregations (above_in aggregations records r))) own

pub class_above : (aggregations : List Aggregation) (records : List Record) (r : ℕ) (head : Record) → numbered records r ≡ Some head → head.class ≡ None → class_in aggregations records r ≡ aggregation_class_in aggregations head.aggregation
unfolding class_in above_in aggregation_class_in
class_above aggregations records r head e own =
    ap (λ o. first_some (option_and_then (λ (x : Record). x.class) o ∷ own_classes aggregations (above_in aggregations records r))) e
    ∙ ap (λ o. first_some (o ∷ own_classes aggregations (above_in aggregations records r))) own
    ∙ ap (λ o. first_some (own_classes aggregations (above_head aggregations o))) e

pub placed_parent : (a : ℕ) (it : Aggregation) (p : ℕ) → it.parent ≡ Some p → IsWellPlaced a it → (0 < p) × (p < a)
placed_parent a it p e w = rw e at w

pub placed_root : (a : ℕ) (it : Aggregation) → it.parent ≡ None → it.class ≡ None → IsWellPlaced a it → ⊥
placed_root a it e own w = let some = rw (e, own) at w in absurd cc

-- ---- a change that leaves the parents leaves the chains

parent_edited_at : (xs : List Aggregation) (i j : ℕ) (f : Aggregation → Aggregation) → ((it : Aggregation) → (f it).parent ≡ it.parent) → parent_of (slice_get (edited_at xs i f) j) ≡ parent_of (slice_get xs j)
parent_edited_at [] i j f keeps = refl
parent_edited_at (x ∷ xs) zero zero f keeps = keeps x
parent_edited_at (x ∷ xs) zero (suc j) f keeps = refl
parent_edited_at (x ∷ xs) (suc i) zero f keeps = refl
parent_edited_at (x ∷ xs) (suc i) (suc j) f keeps = parent_edited_at xs i j f keeps

parent_edited : (xs : List Aggregation) (a b : ℕ) (f : Aggregation → Aggregation) → ((it : Aggregation) → (f it).parent ≡ it.parent) → parent_of (numbered (edited xs a f) b) ≡ parent_of (numbered xs b)
parent_edited xs zero b f keeps = refl
parent_edited xs (suc a) zero f keeps = refl
parent_edited xs (suc a) (suc b) f keeps = parent_edited_at xs a b f keeps

pub chain-edited : (xs : List Aggregation) (a : ℕ) (f : Aggregation → Aggregation) → ((it : Aggregation) → (f it).parent ≡ it.parent) → (m : ℕ) (o : Option ℕ) → chain (edited xs a f) m o ≡ chain xs m o
unfolding chain
chain-edited xs a f keeps m None = refl
chain-edited xs a f keeps zero (Some b) = refl
chain-edited xs a f keeps (suc m) (Some b) =
    ap (λ o. b ∷ chain (edited xs a f) m o) (parent_edited xs a b f keeps) ∙ ap (λ rest. b ∷ rest) (chain-edited xs a f keeps m (parent_of (numbered xs b)))

-- ---- the numbers above a record, one at a time

abbrev pub up_from : List Aggregation → Option ℕ → List ℕ
up_from aggregations next = chain aggregations (unwrap_or next 0) next

pub up_step : (aggregations : List Aggregation) → ArePlaced aggregations → (a : ℕ) (it : Aggregation) → 0 < a → numbered aggregations a ≡ Some it → up_from aggregations (Some a) ≡ a ∷ up_from aggregations it.parent
up_step aggregations placed a it low e =
    chain_step aggregations a it low e ∙ ap (λ rest. a ∷ rest) (up_parent aggregations placed a it.parent (within_parent a (a - 1) it it.parent (omega arith) refl (placed a it e))) where
      up_parent : (aggregations : List Aggregation) → ArePlaced aggregations → (a : ℕ) (o : Option ℕ) → Within (a - 1) o → chain aggregations (a - 1) o ≡ up_from aggregations o
      up_parent aggregations placed a None w = chain_same aggregations placed (a - 1) 0 None tt tt
      up_parent aggregations placed a (Some p) w = chain_same aggregations placed (a - 1) p (Some p) w (w.0, omega arith)

pub above_is : (aggregations : List Aggregation) (records : List Record) (r : ℕ) (head : Record) → numbered records r ≡ Some head → above_in aggregations records r ≡ chain_of aggregations head.aggregation
unfolding above_in
above_is aggregations records r head e = ap (above_head aggregations) e

pub parent_fits : (aggregations : List Aggregation) (a : ℕ) (o : Option ℕ) (it : Aggregation) → a ≤ length aggregations → it.parent ≡ o → IsWellPlaced a it → IfSome o (λ p. (0 < p) × (p ≤ length aggregations))
parent_fits aggregations a None it h e w = tt
parent_fits aggregations a (Some p) it h e w = let placed = rw e at w in (placed.0, omega (arith, placed.1))

pub parent_smaller : (a : ℕ) (o : Option ℕ) (it : Aggregation) → 0 < a → it.parent ≡ o → IsWellPlaced a it → unwrap_or o 0 < a
parent_smaller a None it low e w = low
parent_smaller a (Some p) it low e w = let placed = rw e at w in placed.1

pub up_none : (aggregations : List Aggregation) (next : Option ℕ) → next ≡ None → up_from aggregations next ≡ []
unfolding chain
up_none aggregations next e = ap (up_from aggregations) e

pub chain_begins : (aggregations : List Aggregation) (a : ℕ) → 0 < a → (rest : List ℕ) × (up_from aggregations (Some a) ≡ a ∷ rest)
unfolding chain
chain_begins aggregations zero low = absurd (omega arith)
chain_begins aggregations (suc k) low = (chain aggregations k (parent_of (numbered aggregations (suc k))), refl)

-- ---- a push leaves the chains of the numbers that were there

slice_get-push : {A : Type 0} (xs : List A) (x : A) (i : ℕ) → i < length xs → slice_get (xs ++ x ∷ []) i ≡ slice_get xs i
slice_get-push [] x i h = absurd (omega arith)
slice_get-push (y ∷ ys) x zero h = refl
slice_get-push (y ∷ ys) x (suc i) h = slice_get-push ys x i (omega arith)

numbered-push : {A : Type 0} (xs : List A) (x : A) (n : ℕ) → n ≤ length xs → numbered (xs ++ x ∷ []) n ≡ numbered xs n
numbered-push xs x zero h = refl
numbered-push xs x (suc n) h = slice_get-push xs x n (omega arith)

within_all : (m n : ℕ) (o : Option ℕ) → m ≤ n + 1 → Within (m - 1) o → Within n o
within_all m n None h w = tt
within_all m n (Some p) h w = (w.0, omega (arith, w.1))

chain-push : (xs : List Aggregation) (x : Aggregation) → ArePlaced xs → (m : ℕ) (o : Option ℕ) → Within (length xs) o → chain (xs ++ x ∷ []) m o ≡ chain xs m o
unfolding chain
chain-push xs x placed m None w = refl
chain-push xs x placed zero (Some a) w = refl
chain-push xs x placed (suc m) (Some a) w =
    let within = parent_within xs placed a (length xs) (numbered xs a) (omega (arith, w.1)) refl in
    ap (λ o. a ∷ chain (xs ++ x ∷ []) m (parent_of o)) (numbered-push xs x a w.1) ∙ ap (λ rest. a ∷ rest) (chain-push xs x placed m (parent_of (numbered xs a)) within)

-- ---- depths after a push

slice_get-last : {A : Type 0} (xs : List A) (x : A) → slice_get (xs ++ x ∷ []) (length xs) ≡ Some x
slice_get-last [] x = refl
slice_get-last (y ∷ ys) x = slice_get-last ys x

slice_get-beyond : {A : Type 0} (xs : List A) (i : ℕ) → length xs ≤ i → slice_get xs i ≡ None
slice_get-beyond [] i h = refl
slice_get-beyond (y ∷ ys) zero h = absurd (omega arith)
slice_get-beyond (y ∷ ys) (suc i) h = slice_get-beyond ys i (omega arith)

order_of : (a b : ℕ) → (a < b) ⊎ (a ≡ b) ⊎ (b < a)
order_of zero zero = inr (inl refl)
order_of zero (suc b) = inl (omega arith)
order_of (suc a) zero = inr (inr (omega arith))
order_of (suc a) (suc b) = elim (order_of a b) [ inl less ↦ inl (omega arith) | inr (inl same) ↦ inr (inl (ap suc same)) | inr (inr more) ↦ inr (inr (omega arith)) ]

-- the chain of a parent that is there
parent_chain : (xs : List Aggregation) (k : ℕ) (o : Option ℕ) → ArePlaced xs → k ≡ length xs → IfSome o (λ p. (0 < p) × (p ≤ length xs)) → IfSome o (λ p. length (chain_of xs p) < 8) → length (chain xs k o) < 8
unfolding chain
parent_chain xs k None placed is within few = omega arith
parent_chain xs k (Some p) placed is within few =
    let high : p ≤ length xs = within.1 in
    let same = chain_same xs placed k p (Some p) (within.0, omega arith) (within.0, omega arith) in
    rw same few

parent_in : (n : ℕ) (o : Option ℕ) → IfSome o (λ p. (0 < p) × (p ≤ n)) → Within n o
parent_in n None h = tt
parent_in n (Some p) h = h

chain_next : (xs : List Aggregation) (k : ℕ) (o : Option Aggregation) → numbered xs (suc k) ≡ o → chain_of xs (suc k) ≡ suc k ∷ chain xs k (parent_of o)
unfolding chain
chain_next xs k o e = ap (λ o. suc k ∷ chain xs k (parent_of o)) e

chain_none : (xs : List Aggregation) (k : ℕ) → chain xs k None ≡ []
unfolding chain
chain_none xs k = refl

chain_zero : (xs : List Aggregation) → chain_of xs 0 ≡ []
unfolding chain
chain_zero xs = refl

depth_push : (xs : List Aggregation) (x : Aggregation) → ArePlaced xs → ((a : ℕ) → length (chain_of xs a) ≤ 8) → IfSome x.parent (λ p. length (chain_of xs p) < 8) → IfSome x.parent (λ p. (0 < p) × (p ≤ length xs))
    → (k : ℕ) → (k < length xs) ⊎ (k ≡ length xs) ⊎ (length xs < k) → length (chain_of (xs ++ x ∷ []) (suc k)) ≤ 8
depth_push xs x placed depth few within k (inl less) =
    let same = chain-push xs x placed (suc k) (Some (suc k)) (omega arith, omega arith) in
    rw same (depth (suc k))
depth_push xs x placed depth few within k (inr (inl is)) =
    let here : numbered (xs ++ x ∷ []) (suc k) ≡ Some x = ap (slice_get (xs ++ x ∷ [])) is ∙ slice_get-last xs x in
    let same = chain_next (xs ++ x ∷ []) k (Some x) here ∙ ap (λ rest. suc k ∷ rest) (chain-push xs x placed k x.parent (parent_in (length xs) x.parent within)) in
    let up = parent_chain xs k x.parent placed is within few in
    rw same (omega (arith, up))
depth_push xs x placed depth few within k (inr (inr more)) =
    let gone : numbered (xs ++ x ∷ []) (suc k) ≡ None = slice_get-beyond (xs ++ x ∷ []) k (omega (arith, length-append xs (x ∷ []))) in
    let same = chain_next (xs ++ x ∷ []) k None gone ∙ ap (λ rest. suc k ∷ rest) (chain_none (xs ++ x ∷ []) k) in
    rw same (omega arith)

-- a new one whose parent is there, less than 8 deep, leaves all at most 8 deep
pub chain_pushed : (xs : List Aggregation) (x : Aggregation) → ArePlaced xs → ((a : ℕ) → length (chain_of xs a) ≤ 8) → IfSome x.parent (λ p. length (chain_of xs p) < 8) → IfSome x.parent (λ p. (0 < p) × (p ≤ length xs))
    → (a : ℕ) → length (chain_of (xs ++ x ∷ []) a) ≤ 8
chain_pushed xs x placed depth few within zero = rw (chain_zero (xs ++ x ∷ [])) (omega arith)
chain_pushed xs x placed depth few within (suc k) = depth_push xs x placed depth few within k (order_of k (length xs))
