use Rattle.std.specs.FinMap.{from_entries}
use Rattle.office_tree.specs.ClassIndex.{IsOfClass}
use Rattle.office_tree.specs.Derived.{KeepsNumbers}
use Rattle.office_tree.proofs.Refreshed.{DoneAbove}
use Rattle.office_tree.proofs.class_index.ClassIndex.reindex_records_in.Given as goal

-- the records of that aggregation with higher numbers are on the lists of their classes
abbrev pub invariant-loop-at : goal.invariant-loop-at
invariant-loop-at l = record {
  keeps : KeepsNumbers l.initial.self l.self;
  done : DoneAbove (IsOfClass (from_entries l.initial.self.numbers.entries) l.rows.aggregations l.rows.records) l.rows.records l.aggregation l.at l.initial.self.class_lists.class.items l.self.class_lists.class.items;
}

-- the record before has a lower number
abbrev pub decreases-loop-at : goal.decreases-loop-at
decreases-loop-at l = l.at
