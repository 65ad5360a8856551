-- An office made of tables that were read, and what is examined of it. Source: own.
use Rattle.std.specs.Prelude.{◌≡◌, ◌≢◌, ◌↔◌, ◌≤◌, ◌≤ℤ◌, ℕ, ℤ, Bool, true, ◌&&◌, ◌||◌, not, nat_le, List, map, length, Some, IsTrue, IsSome, if◌then◌else◌}
use Rattle.std.specs.FinMap.{FinMap, entries, get, values}
use Rattle.std.specs.List.{All, Contains}
use Rattle.std.specs.Option.{is_none, is_some}
use Rattle.std.specs.Ordering.{nat_cmp}
use Rattle.office_days.specs.Limits.{IsDayNumber}
use Rattle.office_records.specs.Disposal.{is_ended}
use Rattle.office_records.specs.Examined.{AllHaveDocuments, AreContentsShort, IsTreeBy}
use Rattle.office_records.specs.Forms.{IsWellFormedTree}
use Rattle.office_records.specs.Loading.{is_there}
use Rattle.office_records.specs.Lists.{is_some_and, numbered}
use Rattle.office_records.specs.Sound as tree
use Rattle.office_records.specs.Sound.{AreEventsSound}
use Rattle.office_records.specs.Tree.{status_of}
use Rattle.office_records.specs.declared.status.Status.{Status}
use Rattle.office_records.specs.declared.status.Status.TheVariants.{Ended}
use Rattle.office_rules.specs.HoldForms.{AreWellFormedHolds, FitsHoldLimits}
use Rattle.office_rules.specs.SoundHolds.{NoHoldIsAfter, TargetsExist}
use Rattle.office_rules.specs.EntryForms.{IsWellFormedEntry}
use Rattle.office_rules.specs.Outcomes.{is_ending, is_skipping, is_transferring}
use Rattle.office_rules.specs.declared.entry.Entry.{Entry}
use Rattle.office_rules.specs.Sound.{IsWellFormedRun, RunsAgree}
use Rattle.office_rules.specs.State.{Office, ByteMap, EntryMap, with_contents}
use Rattle.office_rules.specs.Tables.{Represents, TableLists}
use Rattle.office_rules.specs.declared.run.Run.{Run}

-- entries, each under its run and record
abbrev pub entry_rows : List Entry → List ((ℕ × ℕ) × Entry)
entry_rows entries = map (λ e. ((e.run, e.record_no), e)) entries

-- contents of exactly these keys, in this order
abbrev pub HaveKeys : ByteMap → List ℕ → Type 0
HaveKeys contents keys = map (λ e. e.0) (entries contents) ≡ keys

-- with any contents of the keys that were read, the office is the one that the tables represent
abbrev pub AreTablesOf : TableLists → Office → Type 0
AreTablesOf tables s =
    (contents : ByteMap) → HaveKeys contents tables.contents → Represents tables (with_contents s contents)

-- what an entry names is there; a hold is reported exactly of a skipped record; the record is not above its run's
-- cursor; a record that was transferred has a receipt; one that was ended is ended
abbrev pub is_entry_right : Office → Entry → Bool
is_entry_right s e =
    is_there s.tree.classes (Some e.class)
    && is_there s.tree.schedules (Some e.schedule)
    && is_there s.holds e.hold
    && (if is_skipping e.outcome then is_some e.hold else is_none e.hold)
    && is_some_and (numbered s.runs e.run) (λ it. nat_le e.record_no it.cursor)
    && is_some_and (numbered s.tree.records e.record_no) (λ head. not (is_transferring e.outcome) || is_some head.receipt)
    && is_some_and (status_of s.tree e.record_no) (λ status. not (is_ending e.outcome) || is_ended status)

-- under each record the run of the entry that ended it
pub record AreEndings (ends : FinMap nat_cmp ℕ) (es : List Entry) : Type 0 where
  pub each : (r run : ℕ) → get ends r ≡ Some run
      → (e : Entry) × Contains es e × (e.run ≡ run) × (e.record_no ≡ r) × IsTrue (is_ending e.outcome)
  pub all : (e : Entry) → Contains es e → IsTrue (is_ending e.outcome) → get ends e.record_no ≡ Some e.run

-- two runs ended one record
abbrev pub TwoRunsEndOne : List Entry → Type 0
TwoRunsEndOne es =
    (e f : Entry) × Contains es e × Contains es f × IsTrue (is_ending e.outcome) × IsTrue (is_ending f.outcome)
    × (e.record_no ≡ f.record_no) × (e.run ≢ f.run)

-- each ended record has exactly one entry that ended it
pub record EachHasOneEnding (statuses : List Status) (es : List Entry) : Type 0 where
  pub one : (r : ℕ) → numbered statuses r ≡ Some Ended
      → (e : Entry) × Contains es e × (e.record_no ≡ r) × IsTrue (is_ending e.outcome)
  pub once : (e f : Entry) → Contains es e → Contains es f → IsTrue (is_ending e.outcome) → IsTrue (is_ending f.outcome)
      → e.record_no ≡ f.record_no → e.run ≡ f.run

-- no run is of a later day
abbrev pub AreRunsBy : List Run → ℤ → Type 0
AreRunsBy runs last = (n : ℕ) (it : Run) → numbered runs n ≡ Some it → it.day ≤ℤ last

-- the keys are the numbers of exactly the records that are not ended
abbrev pub AreActiveKeys : {V : Type 0} → List Status → FinMap nat_cmp V → Type 0
AreActiveKeys statuses keys =
    (r : ℕ) → IsSome (get keys r) ↔ ((status : Status) × (numbered statuses r ≡ Some status) × (status ≢ Ended))

-- each entry is under its own run and record
abbrev pub AreEntriesKeyed : EntryMap → Type 0
AreEntriesKeyed entries = (run r : ℕ) (e : Entry) → get entries (run, r) ≡ Some e → (e.run ≡ run) × (e.record_no ≡ r)

-- no day of an act is after the office's; and each event is of a record that is there and not ahead of its act
pub record IsOfficeBy (s : Office) : Type 0 where
  pub tree_by : IsTreeBy s.tree.aggregations s.tree.records s.day
  pub events_by : AreEventsSound s.tree.events (length s.tree.records) s.day
  pub holds_by : NoHoldIsAfter s.holds s.day
  pub runs_by : AreRunsBy s.runs s.day

-- targets, runs with certificates, marks under the keys of contents, and entries fit the parts that they name
pub record ArePartsSound {V : Type 0} (s : Office) (marks : FinMap nat_cmp V) : Type 0 where
  pub targets : TargetsExist s.holds s.tree.classes (length s.tree.aggregations) (length s.tree.records)
  pub runs : RunsAgree s.runs s.certificates
  pub active : AreActiveKeys s.tree.statuses marks
  pub entries : All (λ e. is_entry_right s e ≡ true) (values s.entries)

-- the parts of an office agree with each other
pub record DoPartsAgree {V : Type 0} (s : Office) (marks : FinMap nat_cmp V) : Type 0 where
  pub runs_few : length s.runs ≤ 10_000
  pub short : AreContentsShort s.tree.records
  pub documents : AllHaveDocuments s.tree.records s.tree.statuses
  pub by : IsOfficeBy s
  pub represent : ArePartsSound s marks

-- what the types and the tree's and the holds' own promises report of an office
pub record IsWellFormedOffice (s : Office) : Type 0 where
  pub tree_sound : tree.IsSound s.tree
  pub tree_forms : IsWellFormedTree s.tree
  pub holds_few : FitsHoldLimits s.holds
  pub hold_forms : AreWellFormedHolds s.holds
  pub run_forms : (n : ℕ) (it : Run) → numbered s.runs n ≡ Some it → IsWellFormedRun it
  pub entry_forms : (run r : ℕ) (e : Entry) → get s.entries (run, r) ≡ Some e → IsWellFormedEntry e
  pub day_form : IsDayNumber s.day
