use Rattle.std.proofs.Common.{◌≡◌, ◌≢◌, ℕ, length, Some}
use Rattle.office_records.specs.Lists.{numbered}
use Rattle.office_tree.specs.ClassLists.{rest}
use Rattle.office_tree.specs.RecordCaches.{IsRecordCache}
use Rattle.office_tree.specs.declared.record_cache.RecordCache.{RecordCache}
use Rattle.office_tree.proofs.Visits.{IsWalked}
use Rattle.office_tree.proofs.record_caches.RecordCaches.refresh_class.Given as goal

-- those of the class that are not computed anew are ahead
abbrev pub invariant-loop-at : goal.invariant-loop-at
invariant-loop-at l = record {
  count : length l.self.rows.items ≡ length l.initial.self.rows.items;
  walked : IsWalked l.class_lists.next.items l.class_lists.class.items l.class l.at (λ r. (it : RecordCache) → numbered l.self.rows.items r ≡ Some it → IsRecordCache l.directory.schedule_numbers l.rows r it);
  others : (r : ℕ) → numbered l.class_lists.class.items r ≢ Some l.class → numbered l.self.rows.items r ≡ numbered l.initial.self.rows.items r;
}

-- fewer are left
abbrev pub decreases-loop-at : goal.decreases-loop-at
decreases-loop-at l = length (rest l.class_lists.next.items l.at)
