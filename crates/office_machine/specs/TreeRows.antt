-- When rows of five tables are those of a tree. Source: own.
use Rattle.std.specs.Prelude.{◌≡◌, ℕ, List}
use Rattle.std.specs.FinMap.{entries}
use Rattle.office_base.specs.Rows.{numbered_rows}
use Rattle.office_records.specs.Tree.{TreeState}
use Rattle.office_records.specs.declared.aggregation.Aggregation.{Aggregation}
use Rattle.office_records.specs.declared.class.Class.{Class}
use Rattle.office_records.specs.declared.event.Event.{Event}
use Rattle.office_records.specs.declared.schedule.Schedule.{Schedule}
use Rattle.office_rules.specs.Rows.{record_rows}
use Rattle.office_rules.specs.declared.rows.RecordRow.{RecordRow}

-- the rows are exactly those of the tree's schedules, classes, aggregations, records and events, in the order of their
-- keys
pub record AreTreeRows (schedules : List (List ℕ × Schedule)) (classes : List (List ℕ × Class))
    (aggregations : List (ℕ × Aggregation)) (records : List (ℕ × RecordRow)) (events : List (ℕ × Event))
    (tree : TreeState) : Type 0 where
  pub of_schedules : entries tree.schedules ≡ schedules
  pub of_classes : entries tree.classes ≡ classes
  pub of_aggregations : numbered_rows tree.aggregations ≡ aggregations
  pub of_records : numbered_rows (record_rows tree.records tree.statuses) ≡ records
  pub of_events : entries tree.events ≡ events
