-- What it means that a hold covers a record, in the rule's own words. Source: MoReq2010, its disposal holding service;
-- what a hold covers is own.
use Rattle.std.specs.Prelude.{◌≡◌, ◌⊎◌, ℕ, List, Some, IsTrue}
use Rattle.std.specs.FinMap.{get}
use Rattle.std.specs.FinSet.{contains}
use Rattle.office_records.specs.Meanings.{Contains}
use Rattle.office_records.specs.Tree.{TreeState, class_of}
use Rattle.office_rules.specs.Holds.{HoldMap, HoldState, is_in_force}

-- a target of the hold is the record, an aggregation that contains it at any height, or its class
abbrev pub HasTargetAt : HoldState → TreeState → ℕ → Type 0
HasTargetAt hold tree r =
    IsTrue (contains hold.records r)
    ⊎ ((a : ℕ) × IsTrue (contains hold.aggregations a) × Contains tree a r)
    ⊎ ((class : List ℕ) × IsTrue (contains hold.classes class) × (class_of tree r ≡ Some class))

-- the hold of that code is there and in force, and has such a target
abbrev pub Covers : HoldMap → TreeState → List ℕ → ℕ → Type 0
Covers holds tree code r =
    (hold : HoldState) × (get holds code ≡ Some hold) × IsTrue (is_in_force hold) × HasTargetAt hold tree r

-- at least one hold covers the record
abbrev pub IsHeld : HoldMap → TreeState → ℕ → Type 0
IsHeld holds tree r = (code : List ℕ) × Covers holds tree code r
