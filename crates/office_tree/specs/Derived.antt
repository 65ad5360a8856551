-- What is derived from the rows of a tree, and what of it is right while some of it is computed anew. Source: own.
use Rattle.std.specs.Prelude.{◌≡◌, ◌≢◌, ◌+◌, ◌<◌, ℕ, Bool, List, length, vec_len, Some}
use Rattle.std.specs.FinMap.{from_entries}
use Rattle.office_tree.specs.ChildLists.{HasChildren, HasLinks}
use Rattle.office_tree.specs.ClassIndex.{AreListed, HaveNumbers, IsOfClass}
use Rattle.office_tree.specs.ClassLists.{HaveRoom}
use Rattle.office_records.specs.Lists.{numbered}
use Rattle.office_tree.specs.RecordCaches.{IsRecordCache}
use Rattle.office_tree.specs.Rooms.{HasRoom}
use Rattle.office_tree.specs.ScheduleNumbers.{AreNumbered}
use Rattle.office_records.specs.Sound.{IsSound}
use Rattle.office_tree.specs.Stored.{AreDone, IsStored}
use Rattle.office_tree.specs.Summaries.{AreLastAdditions}
use Rattle.office_records.specs.Tree.{TreeState}
use Rattle.office_records.specs.declared.head.Record.{Record}
use Rattle.office_tree.specs.declared.class_index.ClassIndex.{ClassIndex}
use Rattle.office_tree.specs.declared.derived.Derived.{Derived}
use Rattle.office_tree.specs.declared.directory.Directory.{Directory}
use Rattle.office_tree.specs.declared.per_record.PerRecord.{PerRecord}

-- all that is derived is right
pub record IsDerived (rows : TreeState) (it : Derived) : Type 0 where
  pub stored : IsStored rows (from_entries it.directory.by_aggregation_ref.entries)
      (from_entries it.directory.by_record_ref.entries) it.directory.schedule_numbers
      it.per_record.record_caches.rows.items it.directory.summaries.items it.directory.records_in.last.items
      it.directory.records_in.before.items
  pub aggregations_in : HasChildren rows.aggregations it.directory.aggregations_in.last.items
      it.directory.aggregations_in.before.items
  pub class_index : AreListed rows.classes rows.aggregations rows.records
      (from_entries it.per_record.class_index.numbers.entries) (length it.per_record.class_index.class_lists.first.items)
      it.per_record.class_index.class_lists.class.items

-- ---- what is computed anew

-- what a record cache is computed from is right
pub record CanCache (rows : TreeState) (it : Directory) : Type 0 where
  pub sound : IsSound rows
  pub schedules : AreNumbered rows.schedules it.schedule_numbers
  pub last : AreLastAdditions it.summaries.items rows.aggregations rows.records

-- and so are the links by which records are come to
pub record CanRefresh (rows : TreeState) (it : Directory) : Type 0 where
  pub caches : CanCache rows it
  pub linked : HasLinks rows it.records_in.last.items it.records_in.before.items
  pub aggregations_in : HasChildren rows.aggregations it.aggregations_in.last.items it.aggregations_in.before.items

-- the classes have numbers and lists, and each record may be put on one
pub record HasPlaces (rows : TreeState) (it : ClassIndex) : Type 0 where
  pub numbers : HaveNumbers rows.classes (from_entries it.numbers.entries) (length it.class_lists.first.items)
  pub count : length it.class_lists.class.items ≡ length rows.records

-- what is under a number is right, and the others are as they were
pub record IsPutRight {A : Type 0} (IsRight : A → Type 0) (n : ℕ) (old new : List A) : Type 0 where
  pub count : length new ≡ length old
  pub here : (it : A) → numbered new n ≡ Some it → IsRight it
  pub others : (r : ℕ) → r ≢ n → numbered new r ≡ numbered old r

-- so it is of the records of one class
pub record AreClassRight {A : Type 0} (IsRight : ℕ → A → Type 0) (class : List ℕ) (c : ℕ) (old new : List A)
    : Type 0 where
  pub count : length new ≡ length old
  pub here : (r : ℕ) → numbered class r ≡ Some c → (it : A) → numbered new r ≡ Some it → IsRight r it
  pub others : (r : ℕ) → numbered class r ≢ Some c → numbered new r ≡ numbered old r

-- and of those that are meant
pub record AreRenewed {A : Type 0} (IsRight : ℕ → A → Type 0) (records : List Record) (meant : Record → Bool)
    (old new : List A) : Type 0 where
  pub count : length new ≡ length old
  pub done : AreDone IsRight records meant old new

-- one record more is there, and it and those that are meant are right; the others are as they were
pub record AreExtended {A : Type 0} (IsRight : ℕ → A → Type 0) (records : List Record) (meant : Record → Bool)
    (old new : List A) : Type 0 where
  pub count : length new ≡ length old + 1
  pub done : AreDone IsRight records meant old new

-- the classes keep their numbers and lists
pub record KeepsNumbers (old new : ClassIndex) : Type 0 where
  pub same : new.numbers ≡ old.numbers
  pub lists : length new.class_lists.first.items ≡ length old.class_lists.first.items

-- the caches of the records that are meant are right, and those that are moved are on the lists of their classes
pub record IsRenewed (rows : TreeState) (codes : List (List ℕ)) (meant moved : Record → Bool) (old new : PerRecord)
    : Type 0 where
  pub caches : AreRenewed (IsRecordCache codes rows) rows.records meant old.record_caches.rows.items
      new.record_caches.rows.items
  pub keeps : KeepsNumbers old.class_index new.class_index
  pub listed : AreRenewed (IsOfClass (from_entries old.class_index.numbers.entries) rows.aggregations rows.records)
      rows.records moved old.class_index.class_lists.class.items new.class_index.class_lists.class.items

-- ---- room

-- there is room for what is derived of one aggregation more
pub record HasAggregationRoom (it : Directory) : Type 0 where
  pub summary : HasRoom it.summaries
  pub aggregation : HasRoom it.records_in.last
  pub parent : HasRoom it.aggregations_in.last
  pub child : HasRoom it.aggregations_in.before

-- and of one record more
pub record HasRecordRoom (it : Derived) : Type 0 where
  pub linked : HasRoom it.directory.records_in.before
  pub row : HasRoom it.per_record.record_caches.rows
  pub mark : vec_len it.per_record.record_caches.rows < length it.per_record.record_caches.candidates
  pub lists : HaveRoom it.per_record.class_index.class_lists.next it.per_record.class_index.class_lists.previous
      it.per_record.class_index.class_lists.class

-- only what records are in, their refs and what is counted of them may be others
pub record KeepsBesideRecords (old new : Directory) : Type 0 where
  pub by_aggregation_ref : new.by_aggregation_ref ≡ old.by_aggregation_ref
  pub schedule_numbers : new.schedule_numbers ≡ old.schedule_numbers
  pub aggregations_in : new.aggregations_in ≡ old.aggregations_in

-- only the refs of records are others
pub record KeepsBesideRecordRefs (old new : Derived) : Type 0 where
  pub directory : KeepsBesideRecords old.directory new.directory
  pub summaries : new.directory.summaries.items ≡ old.directory.summaries.items
  pub last : new.directory.records_in.last.items ≡ old.directory.records_in.last.items
  pub before : new.directory.records_in.before.items ≡ old.directory.records_in.before.items
  pub rows : new.per_record.record_caches.rows.items ≡ old.per_record.record_caches.rows.items
  pub numbers : new.per_record.class_index.numbers ≡ old.per_record.class_index.numbers
  pub first : new.per_record.class_index.class_lists.first.items
      ≡ old.per_record.class_index.class_lists.first.items
  pub class : new.per_record.class_index.class_lists.class.items
      ≡ old.per_record.class_index.class_lists.class.items

-- only the refs of aggregations are others
pub record KeepsBesideRefs (old new : Directory) : Type 0 where
  pub by_record_ref : new.by_record_ref ≡ old.by_record_ref
  pub schedule_numbers : new.schedule_numbers ≡ old.schedule_numbers
  pub summaries : new.summaries.items ≡ old.summaries.items
  pub last : new.records_in.last.items ≡ old.records_in.last.items
  pub before : new.records_in.before.items ≡ old.records_in.before.items
  pub child_last : new.aggregations_in.last.items ≡ old.aggregations_in.last.items
  pub child_before : new.aggregations_in.before.items ≡ old.aggregations_in.before.items
