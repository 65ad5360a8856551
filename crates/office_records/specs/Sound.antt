-- When a tree is sound, each item over the parts that it speaks of. Source: own; the limits are this project's.
use Rattle.std.specs.Prelude.{◌≡◌, ◌<◌, ◌≤◌, ◌≤ℤ◌, ℕ, ℤ, List, length, Option, Some, None, IsSome, IsNone, IfSome}
use Rattle.std.specs.FinMap.{FinMap, get, len}
use Rattle.std.specs.Ordering.{nat_cmp}
use Rattle.office_records.specs.Lists.{numbered, Differ}
use Rattle.office_records.specs.Tree.{TreeState, code_cmp, chain_of}
use Rattle.office_records.specs.declared.schedule.Schedule.{Schedule}
use Rattle.office_records.specs.declared.class.Class.{Class}
use Rattle.office_records.specs.declared.aggregation.Aggregation.{Aggregation}
use Rattle.office_records.specs.declared.event.Event.{Event}
use Rattle.office_records.specs.declared.head.Record.{Record}

-- no more of each than the office takes
pub record FitsLimits (schedules : FinMap code_cmp Schedule) (classes : FinMap code_cmp Class)
    (aggregations : List Aggregation) (records : List Record) : Type 0 where
  pub schedules_few : len schedules ≤ 1_000
  pub classes_few : len classes ≤ 1_000
  pub aggregations_few : length aggregations ≤ 50_000
  pub records_few : length records ≤ 200_000

-- a parent's number is below its child's, and depths are at most 8
pub record IsForest (aggregations : List Aggregation) : Type 0 where
  pub below : (a p : ℕ) (it : Aggregation) → numbered aggregations a ≡ Some it → it.parent ≡ Some p → (0 < p) × (p < a)
  pub depth : (a : ℕ) → length (chain_of aggregations a) ≤ 8

-- a root has a class
abbrev pub RootsHaveClasses : List Aggregation → Type 0
RootsHaveClasses aggregations =
    (a : ℕ) (it : Aggregation) → numbered aggregations a ≡ Some it → it.parent ≡ None → IsSome it.class

-- a code that is given names something
abbrev pub Names : {V : Type 0} → FinMap code_cmp V → Option (List ℕ) → Type 0
Names things code = IfSome code (λ c. IsSome (get things c))

-- every named schedule, class and aggregation is there, and a root has a class
pub record NamesExist (schedules : FinMap code_cmp Schedule) (classes : FinMap code_cmp Class)
    (aggregations : List Aggregation) (records : List Record) : Type 0 where
  pub class_schedules : (code : List ℕ) (class : Class) → get classes code ≡ Some class
      → IsSome (get schedules class.schedule)
  pub aggregation_classes : (a : ℕ) (it : Aggregation) → numbered aggregations a ≡ Some it → Names classes it.class
  pub root_classes : RootsHaveClasses aggregations
  pub containers : (r : ℕ) (head : Record) → numbered records r ≡ Some head
      → (0 < head.aggregation) × (head.aggregation ≤ length aggregations)
  pub record_classes : (r : ℕ) (head : Record) → numbered records r ≡ Some head → Names classes head.class
  pub record_schedules : (r : ℕ) (head : Record) → numbered records r ≡ Some head → Names schedules head.schedule

-- no open aggregation has a closed parent
abbrev pub NoneIsOpenUnderClosed : List Aggregation → Type 0
NoneIsOpenUnderClosed aggregations =
    (a p : ℕ) (it parent : Aggregation) → numbered aggregations a ≡ Some it → it.parent ≡ Some p
    → numbered aggregations p ≡ Some parent → IsNone it.closed → IsNone parent.closed

-- no two aggregations and no two records have one ref
pub record RefsDiffer (aggregations : List Aggregation) (records : List Record) : Type 0 where
  pub of_aggregations : Differ (λ it. it.ref_text) aggregations
  pub of_records : Differ (λ head. head.ref_text) records

-- what the tree's readings rest on
pub record IsSound (tree : TreeState) : Type 0 where
  pub limits : FitsLimits tree.schedules tree.classes tree.aggregations tree.records
  pub forest : IsForest tree.aggregations
  pub names : NamesExist tree.schedules tree.classes tree.aggregations tree.records
  pub closed : NoneIsOpenUnderClosed tree.aggregations
  pub statuses : length tree.statuses ≡ length tree.records

-- each event is of a record that is there; it occurred on or before the day of the act that recorded it, and no act is
-- after the office's day
pub record AreEventsSound (events : FinMap nat_cmp Event) (count : ℕ) (day : ℤ) : Type 0 where
  pub of_records : (r : ℕ) (event : Event) → get events r ≡ Some event → (0 < r) × (r ≤ count)
  pub not_ahead : (r : ℕ) (event : Event) → get events r ≡ Some event
      → (event.occurred ≤ℤ event.day) × (event.day ≤ℤ day)
