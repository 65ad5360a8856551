use Rattle.std.proofs.Common.{◌-◌, length}
use Rattle.std.specs.FinMap.{from_entries}
use Rattle.office_tree.specs.ClassIndex.{IsOfClass}
use Rattle.office_tree.specs.Derived.{KeepsNumbers}
use Rattle.office_tree.specs.RecordCaches.{IsRecordCache}
use Rattle.office_tree.proofs.InheritingChildren.{AreRenewedAbove}
use Rattle.office_tree.proofs.per_record.PerRecord.+refresh_inheriting.Given as goal

-- a child has a higher number
abbrev pub decreases-refresh_inheriting : goal.decreases-refresh_inheriting
decreases-refresh_inheriting l = length l.rows.now.aggregations - l.from

-- what inherits by the children with higher numbers is computed anew, and on the lists of its classes
abbrev pub invariant-loop-child : goal.invariant-loop-child
invariant-loop-child l = record {
  looks : AreRenewedAbove (IsRecordCache l.directory.schedule_numbers l.rows) l.rows.records l.rows.aggregations l.from l.child l.fn.self.record_caches.rows.items l.self.record_caches.rows.items;
  keeps : KeepsNumbers l.fn.self.class_index l.self.class_index;
  classes : AreRenewedAbove (IsOfClass (from_entries l.fn.self.class_index.numbers.entries) l.rows.aggregations l.rows.records) l.rows.records l.rows.aggregations l.from l.child l.fn.self.class_index.class_lists.class.items l.self.class_index.class_lists.class.items;
}

-- the child before has a lower number
abbrev pub decreases-loop-child : goal.decreases-loop-child
decreases-loop-child l = l.child
