-- What is cached of records that inherit from an aggregation, as a walk below it renews it, from the last child on.
use Rattle.std.proofs.Common.{◌≡◌, ◌≢◌, ◌⊎◌, ℕ, ◌+◌, ◌<◌, ◌==◌, Bool, true, false, List, length, Option, Some, None, refl, sym, ap, ◌∙◌, subst, inl, inr, arith}
use Rattle.std.specs.Option.{option_and_then, option_map, unwrap_or}
use Rattle.std.proofs.lemmas.Bool.{cases_lt}
use Rattle.std.proofs.lemmas.Bool.Decides.{nat_tests}
use Rattle.office_tree.specs.ChildLists.{IsLastBelow, parents_of}
use Rattle.office_tree.specs.Inheriting.{has_own_class, inherits, inherits_from}
use Rattle.office_records.specs.Lists.{numbered}
use Rattle.office_tree.specs.Stored.{AreDone, is_in}
use Rattle.office_records.specs.declared.aggregation.Aggregation.{Aggregation}
use Rattle.office_records.specs.declared.head.Record.{Record}
use Rattle.office_tree.proofs.FoundRefs.{numbered_map}
use Rattle.office_tree.proofs.Inherited.{IsInheritingChild, inherits_down, parent_at}
use Rattle.office_records.proofs.Places.{numbered_within}

-- ---- parents in the list of containers

reported : (o : Option Aggregation) (p : ℕ) → option_and_then (λ (it : Aggregation). it.parent) o ≡ Some p → option_map (λ (it : Aggregation). unwrap_or it.parent 0) o ≡ Some p
reported None p e = absurd cc
reported (Some it) p e = ap (λ (up : Option ℕ). Some (unwrap_or up 0)) e

-- the parent of an aggregation is in the list of containers
pub parent_linked : (xs : List Aggregation) (c p : ℕ) → parent_at xs c ≡ Some p → numbered (parents_of xs) c ≡ Some p
parent_linked xs c p e = numbered_map (λ (it : Aggregation). unwrap_or it.parent 0) xs c ∙ reported (numbered xs c) p e

from_some : (up : Option ℕ) (p : ℕ) → 0 < p → Some (unwrap_or up 0) ≡ Some p → up ≡ Some p
from_some None p low e = let none : 0 ≡ p = cc in absurd (omega (arith, none, low))
from_some (Some q) p low e = e

unreported : (o : Option Aggregation) (p : ℕ) → 0 < p → option_map (λ (it : Aggregation). unwrap_or it.parent 0) o ≡ Some p → option_and_then (λ (it : Aggregation). it.parent) o ≡ Some p
unreported None p low e = absurd cc
unreported (Some it) p low e = from_some it.parent p low e

-- and what the list has is the parent
pub linked_parent : (xs : List Aggregation) (c p : ℕ) → 0 < p → numbered (parents_of xs) c ≡ Some p → parent_at xs c ≡ Some p
linked_parent xs c p low e = unreported (numbered xs c) p low (sym (numbered_map (λ (it : Aggregation). unwrap_or it.parent 0) xs c) ∙ e)

-- ---- the walk

-- what is in that aggregation does not inherit by a child with a higher number, and is not in the aggregation itself
abbrev pub IsLeft : List Aggregation → ℕ → ℕ → ℕ → Type 0
IsLeft xs from child aggregation = (aggregation ≢ from) × ((c : ℕ) → child < c → IsInheritingChild xs from c → inherits xs c aggregation ≡ false)

pub record AreRenewedAbove {A : Type 0} (IsRight : ℕ → A → Type 0) (records : List Record) (xs : List Aggregation) (from child : ℕ) (old new : List A) : Type 0 where
  pub count : length new ≡ length old
  pub there : 0 < child → numbered (parents_of xs) child ≡ Some from
  pub done : (r : ℕ) (it : A) (head : Record) → numbered new r ≡ Some it → numbered records r ≡ Some head → IsRight r it ⊎ (IsLeft xs from child head.aggregation × (numbered old r ≡ Some it))

apart_from : (aggregation a : ℕ) → (aggregation == a) ≡ false → aggregation ≢ a
apart_from aggregation a h e = grind (arith, nat_tests)

-- the aggregation's own records are done, and no child is yet
pub renewed_last : {A : Type 0} (IsRight : ℕ → A → Type 0) (records : List Record) (xs : List Aggregation) (from child : ℕ) (old new : List A) → length new ≡ length old → AreDone IsRight records (is_in from) old new
    → IsLastBelow (parents_of xs) from (length (parents_of xs) + 1) child → AreRenewedAbove IsRight records xs from child old new
renewed_last IsRight records xs from child old new many done is = record {
  count = many;
  there = is.there;
  done = λ r it head e there. elim (done r it head e there) [
    | inl right ↦ inl right
    | inr kept ↦ inr (
      (
        apart_from head.aggregation from kept.0,
        λ c above inheriting.
            let aggregation = parent_linked xs c from inheriting.parent in
            let within = numbered_within (parents_of xs) c from aggregation in
            absurd (is.last c above (omega (arith, within.1)) aggregation),
      ),
      kept.1,
    )
  ];
}

-- one child is passed
left_on : (xs : List Aggregation) (from child next aggregation : ℕ) → IsLastBelow (parents_of xs) from child next → IsLeft xs from child aggregation → (IsInheritingChild xs from child → inherits xs child aggregation ≡ false) → IsLeft xs from next aggregation
left_on xs from child next aggregation is left here = (
  left.0,
  λ c above inheriting. elim (cases_lt child c) [
    | inl over ↦ left.1 c over inheriting
    | inr up ↦ elim (cases_lt c child) [
      | inl between ↦ absurd (is.last c above between (parent_linked xs c from inheriting.parent))
      | inr down ↦ let same : child ≡ c = omega (arith, up, down) in
          subst (λ (k : ℕ). inherits xs k aggregation ≡ false) same (here (subst (λ (k : ℕ). IsInheritingChild xs from k) (sym same) inheriting))
    ]
  ],
)

both : (b : Bool) → b ≡ true → b ≡ false → ⊥
both true e f = absurd cc
both false e f = absurd cc

-- which has a class of its own
pub renewed_skip : {A : Type 0} (IsRight : ℕ → A → Type 0) (records : List Record) (xs : List Aggregation) (from child next : ℕ) (old new : List A) → AreRenewedAbove IsRight records xs from child old new → has_own_class xs child ≡ true
    → IsLastBelow (parents_of xs) from child next → AreRenewedAbove IsRight records xs from next old new
renewed_skip IsRight records xs from child next old new so_far own is = record {
  count = so_far.count;
  there = is.there;
  done = λ r it head e there. elim (so_far.done r it head e there) [
    | inl right ↦ inl right
    | inr kept ↦ inr (left_on xs from child next head.aggregation is kept.0 (λ inheriting. absurd (both (has_own_class xs child) own inheriting.bare)), kept.1)
  ];
}

-- or has none, and what inherits from it is done
pub renewed_next : {A : Type 0} (IsRight : ℕ → A → Type 0) (records : List Record) (xs : List Aggregation) (from child next : ℕ) (old new more : List A) → AreRenewedAbove IsRight records xs from child old new → length more ≡ length new
    → AreDone IsRight records (inherits_from xs child) new more → IsLastBelow (parents_of xs) from child next → AreRenewedAbove IsRight records xs from next old more
renewed_next IsRight records xs from child next old new more so_far many done is = record {
  count = many ∙ so_far.count;
  there = is.there;
  done = λ r it head e there. elim (done r it head e there) [
    | inl right ↦ inl right
    | inr apart ↦ elim (so_far.done r it head apart.1 there) [
      | inl right ↦ inl right
      | inr kept ↦ inr (left_on xs from child next head.aggregation is kept.0 (λ inheriting. apart.0), kept.1)
    ]
  ];
}

none_left : (xs : List Aggregation) (from aggregation : ℕ) → IsLeft xs from 0 aggregation → (b : Bool) → inherits xs from aggregation ≡ b → inherits xs from aggregation ≡ false
none_left xs from aggregation left false e = e
none_left xs from aggregation left true e = elim (inherits_down xs from aggregation e) [
  | inl same ↦ absurd (left.0 same)
  | inr (c, is, by) ↦
      let within = numbered_within (parents_of xs) c from (parent_linked xs c from is.parent) in
      absurd (both (inherits xs c aggregation) by (left.1 c within.0 is))
]

-- and all are
pub renewed_all : {A : Type 0} (IsRight : ℕ → A → Type 0) (records : List Record) (xs : List Aggregation) (from child : ℕ) (old new : List A) → AreRenewedAbove IsRight records xs from child old new → child ≡ 0 → AreDone IsRight records (inherits_from xs from) old new
renewed_all IsRight records xs from child old new so_far none = λ r it head e there. elim (so_far.done r it head e there) [
  | inl right ↦ inl right
  | inr kept ↦ inr (none_left xs from head.aggregation (subst (λ (k : ℕ). IsLeft xs from k head.aggregation) none kept.0) (inherits xs from head.aggregation) refl, kept.1)
]
