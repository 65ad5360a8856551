use Rattle.office_tree.specs.RecordCaches.{IsRecordCache}
use Rattle.office_tree.proofs.Refreshed.{DoneAbove}
use Rattle.office_tree.proofs.record_caches.RecordCaches.refresh_records_in.Given as goal

-- the records of that aggregation with higher numbers are computed anew
abbrev pub invariant-loop-at : goal.invariant-loop-at
invariant-loop-at l = DoneAbove (IsRecordCache l.directory.schedule_numbers l.rows) l.rows.records l.aggregation l.at l.initial.self.rows.items l.self.rows.items

-- the record before has a lower number
abbrev pub decreases-loop-at : goal.decreases-loop-at
decreases-loop-at l = l.at
