-- The tree of rows, and rows of which there is no tree.
use Rattle.std.proofs.Common.{◌≡◌, ℕ, List, length, sym, ◌∙◌}
use Rattle.std.specs.Cmp.{nat_cmp_total}
use Rattle.std.specs.Cmp.Lexicographic.{nat_list_cmp_total}
use Rattle.std.specs.FinMap.{same_entries_map}
use Rattle.std.specs.List.Sorted.{IsStrictlySortedBy}
use Rattle.std.specs.Map.{keys_of}
use Rattle.std.specs.Ordering.{nat_cmp}
use Rattle.office_base.specs.Rows.{numbered_rows}
use Rattle.office_base.proofs.Maps.{entries_of_ordered}
use Rattle.office_records.specs.Loading.{tree_of}
use Rattle.office_records.specs.Sound.{IsSound}
use Rattle.office_records.specs.Tree.{TreeState, code_cmp}
use Rattle.office_records.specs.declared.aggregation.Aggregation.{Aggregation}
use Rattle.office_records.specs.declared.class.Class.{Class}
use Rattle.office_records.specs.declared.event.Event.{Event}
use Rattle.office_records.specs.declared.head.Record.{Record}
use Rattle.office_records.specs.declared.schedule.Schedule.{Schedule}
use Rattle.office_records.specs.declared.status.Status.{Status}
use Rattle.office_rules.specs.Rows.{record_rows}
use Rattle.office_machine.specs.TreeRows.{AreTreeRows}
use Rattle.office_rules.specs.declared.rows.RecordRow.{RecordRow}
use Rattle.office_rules.proofs.NumberedRows.{same_numbered, same_heads, same_statuses}

module _ (schedules : List (List ℕ × Schedule)) (classes : List (List ℕ × Class)) (aggregations : List Aggregation) (heads : List Record) (statuses : List Status) (events : List (ℕ × Event))
    (schedules_ascend : IsStrictlySortedBy code_cmp (keys_of schedules)) (classes_ascend : IsStrictlySortedBy code_cmp (keys_of classes)) (events_ascend : IsStrictlySortedBy nat_cmp (keys_of events))
    (schedule_rows : List (List ℕ × Schedule)) (class_rows : List (List ℕ × Class)) (aggregation_rows : List (ℕ × Aggregation)) (row_list : List (ℕ × RecordRow)) (event_rows : List (ℕ × Event))
    (a : schedules ≡ schedule_rows) (b : classes ≡ class_rows) (c : numbered_rows aggregations ≡ aggregation_rows) (d : numbered_rows (record_rows heads statuses) ≡ row_list) (f : events ≡ event_rows) where
  -- the tree of parts that were made of rows has these rows
  pub tree_has_rows : AreTreeRows schedule_rows class_rows aggregation_rows row_list event_rows (tree_of schedules classes aggregations heads statuses events)
  tree_has_rows = record {
    of_schedules = entries_of_ordered code_cmp nat_list_cmp_total schedules schedules_ascend ∙ a;
    of_classes = entries_of_ordered code_cmp nat_list_cmp_total classes classes_ascend ∙ b;
    of_aggregations = c;
    of_records = d;
    of_events = entries_of_ordered nat_cmp nat_cmp_total events events_ascend ∙ f;
  }

  -- and a sound tree of the rows is that one
  pub tree_of_rows_is : (tree : TreeState) → length statuses ≡ length heads → IsSound tree → AreTreeRows schedule_rows class_rows aggregation_rows row_list event_rows tree → tree ≡ tree_of schedules classes aggregations heads statuses events
  tree_of_rows_is tree long sound rows =
      let columns = same_numbered (record_rows tree.records tree.statuses) (record_rows heads statuses) (rows.of_records ∙ sym d) in
      let by = same_entries_map tree.schedules _ (rows.of_schedules ∙ sym tree_has_rows.of_schedules) in
      let under = same_entries_map tree.classes _ (rows.of_classes ∙ sym tree_has_rows.of_classes) in
      let at = same_entries_map tree.events _ (rows.of_events ∙ sym tree_has_rows.of_events) in
      let all = same_numbered tree.aggregations aggregations (rows.of_aggregations ∙ sym c) in
      let ones = same_heads tree.records heads tree.statuses statuses sound.statuses long columns in
      let ends = same_statuses tree.records heads tree.statuses statuses sound.statuses long columns in
      λ i. record { schedules = by i; classes = under i; aggregations = all i; records = ones i; statuses = ends i; events = at i }
