-- Why an act on holds is refused: the conditions that the holds themselves decide, in tables as those of the tree.
-- Source: own.
use Rattle.std.specs.Prelude.{ℕ, Bool, ◌&&◌, ◌+◌, not, List, [], ◌∷◌, nat_le, Option}
use Rattle.std.specs.Option.{is_some, is_none}
use Rattle.std.specs.Str.{bytes_eq}
use Rattle.std.specs.FinMap.{get, contains_key, len}
use Rattle.std.specs.FinSet as set
use Rattle.office_base.specs.declared.refusal.Refusal.{Refusal}
use Rattle.office_base.specs.declared.refusal.Refusal.TheVariants.{Exists, NoSuch, Full, HeldClass, Lifted}
use Rattle.office_records.specs.Effects.{reclassified}
use Rattle.office_records.specs.Lists.{is_some_and}
use Rattle.office_records.specs.Tree.{TreeState, class_of, aggregation_class_of}
use Rattle.office_records.specs.declared.classified.Classified.{Classified}
use Rattle.office_records.specs.declared.classified.Classified.TheVariants as classified
use Rattle.office_rules.specs.Holds.{HoldMap, HoldState, has_target, is_held_class}
use Rattle.office_records.specs.declared.target.Target.{Target}

-- how many targets a hold has
abbrev pub target_count : HoldState → ℕ
target_count hold = set.len hold.classes + set.len hold.aggregations + set.len hold.records

-- the hold is there and has that target
abbrev pub holds_target : HoldMap → List ℕ → Target → Bool
holds_target holds code target = is_some_and (get holds code) (λ hold. has_target hold target)

-- the hold is there and lifted
abbrev pub is_lifted : HoldMap → List ℕ → Bool
is_lifted holds code = is_some_and (get holds code) (λ hold. is_some hold.lifted)

-- the hold is there and has 1,000 targets
abbrev pub has_all_targets : HoldMap → List ℕ → Bool
has_all_targets holds code = is_some_and (get holds code) (λ hold. nat_le 1_000 (target_count hold))

-- the code is there; there are 1,000, lifted ones counted
abbrev pub conditions_of_place_hold : HoldMap → List ℕ → List (Refusal × Bool)
conditions_of_place_hold holds code =
    (Exists, contains_key holds code)
    ∷ (Full, nat_le 1_000 (len holds))
    ∷ []

-- the hold has that target; no such hold; it has 1,000 targets; it is lifted
abbrev pub conditions_of_hold_on : HoldMap → List ℕ → Target → List (Refusal × Bool)
conditions_of_hold_on holds code target =
    (Exists, holds_target holds code target)
    ∷ (NoSuch, is_none (get holds code))
    ∷ (Full, has_all_targets holds code)
    ∷ (Lifted, is_lifted holds code)
    ∷ []

-- no such hold, or it has no such target; it is lifted
abbrev pub conditions_of_hold_off : HoldMap → List ℕ → Target → List (Refusal × Bool)
conditions_of_hold_off holds code target =
    (NoSuch, not (holds_target holds code target))
    ∷ (Lifted, is_lifted holds code)
    ∷ []

-- no such hold; it is lifted
abbrev pub conditions_of_lift_hold : HoldMap → List ℕ → List (Refusal × Bool)
conditions_of_lift_hold holds code =
    (NoSuch, is_none (get holds code))
    ∷ (Lifted, is_lifted holds code)
    ∷ []

-- the class of an aggregation or record
abbrev pub classified_class : TreeState → Classified → Option (List ℕ)
classified_class tree (classified.Aggregation a) = aggregation_class_of tree a
classified_class tree (classified.Record r) = class_of tree r

-- its class would change, and a hold in force targets the old one
abbrev pub would_leave_held_class : HoldMap → TreeState → Classified → Option (List ℕ) → Bool
would_leave_held_class holds tree what class =
    is_some_and (classified_class tree what) (λ old.
    not (is_some_and (classified_class (reclassified tree what class) what) (bytes_eq old)) && is_held_class holds old)

-- a held class would be left
abbrev pub conditions_of_leaving_class : HoldMap → TreeState → Classified → Option (List ℕ) → List (Refusal × Bool)
conditions_of_leaving_class holds tree what class = (HeldClass, would_leave_held_class holds tree what class) ∷ []
