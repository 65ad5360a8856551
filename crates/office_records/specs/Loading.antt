-- The tree of parts that are there already, and tests of whether the parts hang together. Source: own.
use Rattle.std.specs.Prelude.{ℕ, Bool, true, ◌&&◌, ◌||◌, List, length, Option, Some, None, nat_lt, nat_le}
use Rattle.std.specs.Option.{is_some, is_none}
use Rattle.std.specs.FinMap.{FinMap, contains_key, from_entries, len}
use Rattle.office_records.specs.Lists.{numbered, is_some_and}
use Rattle.office_records.specs.Tree.{TreeState, code_cmp}
use Rattle.office_records.specs.declared.aggregation.Aggregation.{Aggregation}
use Rattle.office_records.specs.declared.class.Class.{Class}
use Rattle.office_records.specs.declared.event.Event.{Event}
use Rattle.office_records.specs.declared.head.Record.{Record}
use Rattle.office_records.specs.declared.schedule.Schedule.{Schedule}
use Rattle.office_records.specs.declared.status.Status.{Status}

-- the tree of these parts
abbrev pub tree_of : List (List ℕ × Schedule) → List (List ℕ × Class) → List Aggregation → List Record → List Status
    → List (ℕ × Event) → TreeState
tree_of schedules classes aggregations records statuses events = record {
  schedules = from_entries schedules;
  classes = from_entries classes;
  aggregations = aggregations;
  records = records;
  statuses = statuses;
  events = from_entries events;
}

-- no more of each than the office takes
abbrev pub is_within_limits : FinMap code_cmp Schedule → FinMap code_cmp Class → List Aggregation → List Record → Bool
is_within_limits schedules classes aggregations records =
    nat_le (len schedules) 1_000 && nat_le (len classes) 1_000 && nat_le (length aggregations) 50_000
    && nat_le (length records) 200_000

-- what is named is there, if something is named
abbrev pub is_there : {V : Type 0} → FinMap code_cmp V → Option (List ℕ) → Bool
is_there things None = true
is_there things (Some code) = contains_key things code

-- an aggregation's class is there, and a root has one
abbrev pub is_aggregation_named : FinMap code_cmp Class → Aggregation → Bool
is_aggregation_named classes it = is_there classes it.class && (is_some it.parent || is_some it.class)

-- a record's aggregation, class and schedule are there
abbrev pub is_record_named : FinMap code_cmp Schedule → FinMap code_cmp Class → ℕ → Record → Bool
is_record_named schedules classes count head =
    nat_le 1 head.aggregation && nat_le head.aggregation count && is_there classes head.class
    && is_there schedules head.schedule

-- the parent's number is smaller, and it is not a closed one over an open one
abbrev pub is_placed : List Aggregation → ℕ → Aggregation → Option ℕ → Bool
is_placed aggregations a it None = true
is_placed aggregations a it (Some p) =
    nat_le 1 p && nat_lt p a
    && (is_some it.closed || is_some_and (numbered aggregations p) (λ parent. is_none parent.closed))
