-- The rows of tables that are in memory, given one after another. Source: own.
use Rattle.std.specs.Prelude.{◌≡◌, ◌++◌, List, map}
use Rattle.office_rules.specs.Tables.{Begins, RepresentNone, TableLists, no_rows, with_row, with_rows}
use Rattle.office_rules.specs.declared.table_row.Row.{Row}

-- the two rows are one row of one table, wherever they lie in memory
abbrev pub IsSameRow : Row → Row → Type 0
IsSameRow r s = (t : TableLists) → with_row t r ≡ with_row t s

-- no tables that begin with the rows that had come and some first ones of these represent a sound state
abbrev pub RepresentNoneFrom : {A : Type 0} → TableLists → (A → Row) → List A → Type 0
RepresentNoneFrom t row_of rows =
    (done : List _) × (rest : List _) × (rows ≡ done ++ rest)
    × ((u : TableLists) → Begins (with_rows t (map row_of done)) u → RepresentNone u)

-- of these tables the rows of office, schedules and classes
abbrev pub up_to_classes : TableLists → TableLists
up_to_classes t = record no_rows { days = t.days; schedules = t.schedules; classes = t.classes }

-- and those of aggregations, records, events and contents
abbrev pub up_to_contents : TableLists → TableLists
up_to_contents t = record (up_to_classes t) { aggregations = t.aggregations; records = t.records; events = t.events; contents = t.contents }

-- and those of holds and targets
abbrev pub up_to_targets : TableLists → TableLists
up_to_targets t = record (up_to_contents t) { holds = t.holds; targets = t.targets }
