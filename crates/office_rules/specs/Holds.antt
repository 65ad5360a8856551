-- Holds, and which records they cover. Source: MoReq2010, its disposal holding service; what a hold covers is own.
use Rattle.std.specs.Prelude.{ℕ, Bool, ◌&&◌, ◌||◌, List, map, filter, slice_get, Option, ℤ}
use Rattle.std.specs.List.{list_any}
use Rattle.std.specs.Option.{is_none}
use Rattle.std.specs.Ordering.{nat_cmp}
use Rattle.std.specs.FinMap.{FinMap, entries, values}
use Rattle.std.specs.FinSet.{FinSet, contains}
use Rattle.office_records.specs.Lists.{is_some_and}
use Rattle.office_records.specs.Tree.{TreeState, code_cmp, above, class_of}
use Rattle.office_records.specs.declared.target.Target.{Target}
use Rattle.office_records.specs.declared.target.Target.TheVariants as target

-- why, when and by whom it was placed, the day on which it was lifted, if it was, and its targets of each kind
pub record HoldState : Type 0 where
  pub reason : List ℕ
  pub placed : ℤ
  pub by : List ℕ
  pub lifted : Option ℤ
  pub classes : FinSet code_cmp
  pub aggregations : FinSet nat_cmp
  pub records : FinSet nat_cmp

-- the holds by their codes
abbrev pub HoldMap : Type 0
HoldMap = FinMap code_cmp HoldState

-- a hold is in force until it is lifted
abbrev pub is_in_force : HoldState → Bool
is_in_force hold = is_none hold.lifted

abbrev pub has_target : HoldState → Target → Bool
has_target hold (target.Class code) = contains hold.classes code
has_target hold (target.Aggregation a) = contains hold.aggregations a
has_target hold (target.Record r) = contains hold.records r

-- the hold covers a record that these aggregations contain and that has this class: it is in force, and a target of it
-- is the record, one of the aggregations or the class
abbrev pub hold_covers : HoldState → ℕ → List ℕ → Option (List ℕ) → Bool
hold_covers hold r containers class =
    is_in_force hold
    && (contains hold.records r || list_any (contains hold.aggregations) containers
    || is_some_and class (contains hold.classes))

unfoldable pub covers_in : HoldMap → ℕ → List ℕ → Option (List ℕ) → List (List ℕ)
covers_in holds r containers class = map (λ e. e.0) (filter (λ e. hold_covers e.1 r containers class) (entries holds))

-- the codes of the holds that cover a record, in byte order
abbrev pub covers : HoldMap → TreeState → ℕ → List (List ℕ)
covers holds tree r = covers_in holds r (above tree r) (class_of tree r)

-- the least of them
abbrev pub least_covering : HoldMap → TreeState → ℕ → Option (List ℕ)
least_covering holds tree r = slice_get (covers holds tree r) 0

unfoldable pub held_in : HoldMap → ℕ → List ℕ → Option (List ℕ) → Bool
held_in holds r containers class = list_any (λ hold. hold_covers hold r containers class) (values holds)

-- a record is held while at least one hold covers it
abbrev pub is_held : HoldMap → TreeState → ℕ → Bool
is_held holds tree r = held_in holds r (above tree r) (class_of tree r)

-- a hold in force has that class as a target
unfoldable pub is_held_class : HoldMap → List ℕ → Bool
is_held_class holds class = list_any (λ hold. is_in_force hold && contains hold.classes class) (values holds)
