use Rattle.office_tree.proofs.Refreshed.{RecordCachesTo}
use Rattle.office_tree.proofs.renewal.record_caches_of.Given as goal

-- the records so far have their record caches
abbrev pub invariant-loop-i : goal.invariant-loop-i
invariant-loop-i l = RecordCachesTo l.directory.schedule_numbers l.rows l.i l.record_caches.rows.items
