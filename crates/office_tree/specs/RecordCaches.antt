-- What is cached of each record, so that it is not computed again each time: its schedule in effect, its due day, and
-- whether a disposal run may take it. Source: own.
use Rattle.std.specs.Prelude.{◌≡◌, ℕ, List, length, Some}
use Rattle.office_records.specs.Candidates.{is_candidate}
use Rattle.office_records.specs.Lists.{numbered}
use Rattle.office_records.specs.Tree.{TreeState, due_of, plan_of}
use Rattle.office_tree.specs.declared.record_cache.RecordCache.{RecordCache}

-- what is cached of a record is right, where schedules are named by their places in a list of codes
pub record IsRecordCache (codes : List (List ℕ)) (tree : TreeState) (r : ℕ) (it : RecordCache) : Type 0 where
  pub plan : numbered codes it.plan ≡ plan_of tree r
  pub due : it.due ≡ due_of tree r
  pub candidate : it.is_candidate ≡ is_candidate tree r

-- so it is of all records
pub record AreRecordCaches (codes : List (List ℕ)) (tree : TreeState) (record_caches : List RecordCache) : Type 0 where
  pub count : length record_caches ≡ length tree.records
  pub each : (r : ℕ) (it : RecordCache) → numbered record_caches r ≡ Some it → IsRecordCache codes tree r it

-- a change of the tree that leaves a record's cache
pub record LeavesRecordCache (tree next : TreeState) (r : ℕ) : Type 0 where
  pub plan : plan_of next r ≡ plan_of tree r
  pub due : due_of next r ≡ due_of tree r
  pub candidate : is_candidate next r ≡ is_candidate tree r
