-- When a state is sound: eleven items, each over the parts that it speaks of. Source: own; the limits are this
-- project's.
use Rattle.std.specs.Prelude.{◌≡◌, ◌≢◌, ◌≤◌, ◌≤ℤ◌, ◌<◌, ◌↔◌, ℕ, false, true, List, length, Some, ℤ, IsSome, IsTrue, IfSome}
use Rattle.std.specs.FinMap.{FinMap, get}
use Rattle.office_days.specs.Limits.{IsDayNumber}
use Rattle.office_records.specs.Disposal.{is_disposal}
use Rattle.office_records.specs.Forms.{IsWellFormedTree, IsText}
use Rattle.office_records.specs.Lists.{numbered}
use Rattle.office_records.specs.Sound.{AreEventsSound, FitsLimits, IsForest, NamesExist, NoneIsOpenUnderClosed, RefsDiffer}
use Rattle.office_records.specs.Tree.{TreeState, code_cmp}
use Rattle.office_records.specs.declared.aggregation.Aggregation.{Aggregation}
use Rattle.office_records.specs.declared.class.Class.{Class}
use Rattle.office_records.specs.declared.head.Record.{Record}
use Rattle.office_records.specs.declared.schedule.Schedule.{Schedule}
use Rattle.office_records.specs.declared.status.Status.{Status}
use Rattle.office_records.specs.declared.status.Status.TheVariants.{Here, Received, Ended}
use Rattle.office_rules.specs.HoldForms.{AreWellFormedHolds, FitsHoldLimits}
use Rattle.office_rules.specs.Holds.{HoldMap}
use Rattle.office_rules.specs.SoundHolds.{TargetsExist, NoHoldIsAfter}
use Rattle.office_rules.specs.EntryForms.{IsWellFormedEntry}
use Rattle.office_rules.specs.Outcomes.{is_ending}
use Rattle.office_rules.specs.declared.entry.Entry.{Entry}
use Rattle.office_rules.specs.declared.outcome.Outcome.TheVariants.{Transferred, Skipped}
use Rattle.office_rules.specs.State.{State, Office, EntryMap, ByteMap, with_contents}
use Rattle.office_rules.specs.declared.run.Run.{Run}

-- the day and the opener of a run, and a cursor that is a number of a record or 0
pub record IsWellFormedRun (it : Run) : Type 0 where
  pub day : IsDayNumber it.day
  pub by : IsText it.by
  pub cursor : it.cursor ≤ 4_294_967_295

-- every text, code, day and number is of its form and within its limit, and there are no more of each than the office
-- takes
pub record IsWithinLimits (tree : TreeState) (holds : HoldMap) (runs : List Run) (entries : EntryMap) (day : ℤ) : Type 0
  where
    pub tree_few : FitsLimits tree.schedules tree.classes tree.aggregations tree.records
    pub tree_forms : IsWellFormedTree tree
    pub statuses : length tree.statuses ≡ length tree.records
    pub holds_few : FitsHoldLimits holds
    pub hold_forms : AreWellFormedHolds holds
    pub runs_few : length runs ≤ 10_000
    pub run_forms : (n : ℕ) (it : Run) → numbered runs n ≡ Some it → IsWellFormedRun it
    pub entry_forms : (run r : ℕ) (e : Entry) → get entries (run, r) ≡ Some e → IsWellFormedEntry e
    pub day_form : IsDayNumber day

-- what an entry names is there
pub record IsNamedEntry (schedules : FinMap code_cmp Schedule) (classes : FinMap code_cmp Class) (holds : HoldMap)
    (run_count record_count run r : ℕ) (e : Entry) : Type 0 where
  pub run_there : (0 < run) × (run ≤ run_count)
  pub record_there : (0 < r) × (r ≤ record_count)
  pub class : IsSome (get classes e.class)
  pub schedule : IsSome (get schedules e.schedule)
  pub hold : IfSome e.hold (λ code. IsSome (get holds code))

-- every named schedule, class, aggregation, record, hold and run is there, and a root has a class
pub record AllNamesExist (tree : TreeState) (holds : HoldMap) (runs : List Run) (entries : EntryMap) : Type 0 where
  pub of_tree : NamesExist tree.schedules tree.classes tree.aggregations tree.records
  pub of_holds : TargetsExist holds tree.classes (length tree.aggregations) (length tree.records)
  pub of_entries : (run r : ℕ) (e : Entry) → get entries (run, r) ≡ Some e
      → IsNamedEntry tree.schedules tree.classes holds (length runs) (length tree.records) run r e

-- contents are there for exactly the records that are not ended
abbrev pub ContentsAgree : List Status → ByteMap → Type 0
ContentsAgree statuses contents =
    (r : ℕ) → IsSome (get contents r) ↔ ((status : Status) × (numbered statuses r ≡ Some status) × (status ≢ Ended))

-- a record that is not here has a confirmation, and each names transfer or destruction; a received record has a
-- receipt, and so has one whose ending entry says transferred
pub record DocumentsAgree (records : List Record) (statuses : List Status) (entries : EntryMap) : Type 0 where
  pub confirmed : (r : ℕ) (head : Record) (status : Status) → numbered records r ≡ Some head
      → numbered statuses r ≡ Some status → status ≢ Here → IsSome head.confirmation
  pub disposal : (r : ℕ) (head : Record) → numbered records r ≡ Some head
      → IfSome head.confirmation (λ confirmation. IsTrue (is_disposal confirmation.action))
  pub received : (r : ℕ) (head : Record) → numbered records r ≡ Some head → numbered statuses r ≡ Some Received
      → IsSome head.receipt
  pub transferred : (run r : ℕ) (e : Entry) (head : Record) → get entries (run, r) ≡ Some e → e.outcome ≡ Transferred
      → numbered records r ≡ Some head → IsSome head.receipt

-- each entry is under its run and record; an ended record has exactly one entry that ended it, and no other record has
-- one; a hold is reported exactly of skipped records; no entry's record is above its run's cursor
pub record EntriesAgree (statuses : List Status) (runs : List Run) (entries : EntryMap) : Type 0 where
  pub keyed : (run r : ℕ) (e : Entry) → get entries (run, r) ≡ Some e → (e.run ≡ run) × (e.record_no ≡ r)
  pub ended : (r : ℕ) → numbered statuses r ≡ Some Ended
      → (run : ℕ) × (e : Entry) × (get entries (run, r) ≡ Some e) × IsTrue (is_ending e.outcome)
  pub once : (run other r : ℕ) (e f : Entry) → get entries (run, r) ≡ Some e → get entries (other, r) ≡ Some f
      → IsTrue (is_ending e.outcome) → IsTrue (is_ending f.outcome) → run ≡ other
  pub no_other : (run r : ℕ) (e : Entry) → get entries (run, r) ≡ Some e → IsTrue (is_ending e.outcome)
      → numbered statuses r ≡ Some Ended
  pub holds : (run r : ℕ) (e : Entry) → get entries (run, r) ≡ Some e → IsSome e.hold ↔ (e.outcome ≡ Skipped)
  pub passed : (run r : ℕ) (e : Entry) (it : Run) → get entries (run, r) ≡ Some e → numbered runs run ≡ Some it
      → r ≤ it.cursor

-- only the last run may be open, and certificates are there for exactly the closed runs
pub record RunsAgree (runs : List Run) (certificates : ByteMap) : Type 0 where
  pub last : (run : ℕ) (it : Run) → numbered runs run ≡ Some it → it.is_closed ≡ false → run ≡ length runs
  pub certified : (run : ℕ) → IsSome (get certificates run)
      ↔ ((it : Run) × (numbered runs run ≡ Some it) × (it.is_closed ≡ true))

-- no day of an act is after the office's day
pub record NoDayIsAfter (aggregations : List Aggregation) (records : List Record) (holds : HoldMap) (runs : List Run)
    (day : ℤ) : Type 0 where
  pub closed : (a : ℕ) (it : Aggregation) → numbered aggregations a ≡ Some it
      → IfSome it.closed (λ closed. closed ≤ℤ day)
  pub added : (r : ℕ) (head : Record) → numbered records r ≡ Some head → head.added ≤ℤ day
  pub reviewed : (r : ℕ) (head : Record) → numbered records r ≡ Some head
      → IfSome head.review (λ review. review.day ≤ℤ day)
  pub confirmed : (r : ℕ) (head : Record) → numbered records r ≡ Some head
      → IfSome head.confirmation (λ confirmation. confirmation.day ≤ℤ day)
  pub receipted : (r : ℕ) (head : Record) → numbered records r ≡ Some head
      → IfSome head.receipt (λ receipt. receipt.day ≤ℤ day)
  pub held : NoHoldIsAfter holds day
  pub run_days : (run : ℕ) (it : Run) → numbered runs run ≡ Some it → it.day ≤ℤ day

-- all of them; the last says that refs differ
pub record IsSound (s : State) : Type 0 where
  pub limits : IsWithinLimits s.office.tree s.office.holds s.office.runs s.office.entries s.office.day
  pub forest : IsForest s.office.tree.aggregations
  pub names : AllNamesExist s.office.tree s.office.holds s.office.runs s.office.entries
  pub closed : NoneIsOpenUnderClosed s.office.tree.aggregations
  pub contents : ContentsAgree s.office.tree.statuses s.contents
  pub documents : DocumentsAgree s.office.tree.records s.office.tree.statuses s.office.entries
  pub entries : EntriesAgree s.office.tree.statuses s.office.runs s.office.entries
  pub runs : RunsAgree s.office.runs s.office.certificates
  pub days : NoDayIsAfter s.office.tree.aggregations s.office.tree.records s.office.holds s.office.runs s.office.day
  pub events : AreEventsSound s.office.tree.events (length s.office.tree.records) s.office.day
  pub refs : RefsDiffer s.office.tree.aggregations s.office.tree.records

-- an office without contents is sound where some contents make a sound state of it
unfoldable pub IsSoundOffice : Office → Type 0
IsSoundOffice s = (contents : ByteMap) × IsSound (with_contents s contents)
