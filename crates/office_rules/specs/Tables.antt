-- The rows of the tables as they come from a file, and when they represent a state. Source: own.
use Rattle.std.specs.Prelude.{◌≡◌, ◌≢◌, ◌∷◌, ◌++◌, [], ℕ, ℤ, List, map}
use Rattle.std.specs.List.{fold, list_any}
use Rattle.std.specs.String.{string_bytes}
use Rattle.office_records.specs.declared.aggregation.Aggregation.{Aggregation}
use Rattle.office_records.specs.declared.class.Class.{Class}
use Rattle.office_records.specs.declared.event.Event.{Event}
use Rattle.office_records.specs.declared.schedule.Schedule.{Schedule}
use Rattle.office_rules.specs.HoldLoading.{is_pair}
use Rattle.office_records.specs.declared.hold_row.HoldRow.{HoldRow}
use Rattle.office_records.specs.declared.target.Target.{Target}
use Rattle.office_rules.specs.declared.entry.Entry.{Entry}
use Rattle.office_rules.specs.Rows.{rows_of}
use Rattle.office_rules.specs.Sound.{IsSound}
use Rattle.office_rules.specs.State.{State}
use Rattle.office_rules.specs.declared.rows.RecordRow.{RecordRow}
use Rattle.office_rules.specs.declared.run.Run.{Run}
use Rattle.office_rules.specs.declared.table_row.Row.{Row}
use Rattle.office_rules.specs.declared.table_row.Row.TheVariants as row
use Rattle.office_rules.specs.declared.tables.Tables.{Tables}

-- the rows of each table that have come, each with its key before it, in the order in which they came; of `office` the
-- days, of `contents` the keys; an entry holds its key itself
pub record TableLists : Type 0 where
  pub days : List ℤ
  pub schedules : List (List ℕ × Schedule)
  pub classes : List (List ℕ × Class)
  pub aggregations : List (ℕ × Aggregation)
  pub records : List (ℕ × RecordRow)
  pub events : List (ℕ × Event)
  pub contents : List ℕ
  pub holds : List (List ℕ × HoldRow)
  pub targets : List (List ℕ × Target)
  pub runs : List (ℕ × Run)
  pub entries : List Entry
  pub certificates : List (ℕ × List ℕ)

-- no row has come
abbrev pub no_rows : TableLists
no_rows = record { days = []; schedules = []; classes = []; aggregations = []; records = []; events = []; contents = []; holds = []; targets = []; runs = []; entries = []; certificates = [] }

-- one more row of its table
abbrev pub with_row : TableLists → Row → TableLists
with_row t (row.Office day) = record t { days = t.days ++ day ∷ [] }
with_row t (row.Schedule code schedule) = record t { schedules = t.schedules ++ (code, schedule) ∷ [] }
with_row t (row.Class code class) = record t { classes = t.classes ++ (code, class) ∷ [] }
with_row t (row.Aggregation number aggregation) =
    record t { aggregations = t.aggregations ++ (number, aggregation) ∷ [] }
with_row t (row.Record number columns) = record t { records = t.records ++ (number, columns) ∷ [] }
with_row t (row.Event number event) = record t { events = t.events ++ (number, event) ∷ [] }
with_row t (row.Content number) = record t { contents = t.contents ++ number ∷ [] }
with_row t (row.Hold code hold) = record t { holds = t.holds ++ (code, hold) ∷ [] }
with_row t (row.Target hold target) = record t { targets = t.targets ++ (hold, target) ∷ [] }
with_row t (row.Run number run) = record t { runs = t.runs ++ (number, run) ∷ [] }
with_row t (row.Entry entry) = record t { entries = t.entries ++ entry ∷ [] }
with_row t (row.Certificate run text) = record t { certificates = t.certificates ++ (run, string_bytes text) ∷ [] }

-- rows, one after another
abbrev pub with_rows : TableLists → List Row → TableLists
with_rows t rows = fold with_row t rows

-- the rows of tables that are in memory whole
abbrev pub lists_of : Tables → TableLists
lists_of t = record {
  days = t.day ∷ [];
  schedules = t.schedules.items;
  classes = t.classes.items;
  aggregations = t.aggregations.items;
  records = t.records.items;
  events = t.events.items;
  contents = t.contents.items;
  holds = t.holds.items;
  targets = t.targets.items;
  runs = t.runs.items;
  entries = t.entries.items;
  certificates = map (λ e. (e.0, string_bytes e.1)) t.certificates.items;
}

-- each table has exactly the rows that represent the state, in the order of their keys, targets in any order; of
-- contents the keys; an entry's key is in it
pub record Represents (t : TableLists) (s : State) : Type 0 where
  pub day : t.days ≡ (rows_of s).day ∷ []
  pub schedules : t.schedules ≡ (rows_of s).schedules
  pub classes : t.classes ≡ (rows_of s).classes
  pub aggregations : t.aggregations ≡ (rows_of s).aggregations
  pub records : t.records ≡ (rows_of s).records
  pub events : t.events ≡ (rows_of s).events
  pub contents : t.contents ≡ map (λ e. e.0) (rows_of s).contents
  pub holds : t.holds ≡ (rows_of s).holds
  pub targets : (code : List ℕ) (target : Target)
      → list_any (λ e. is_pair e.0 e.1 code target) t.targets ≡ (rows_of s).targets code target
  pub runs : t.runs ≡ (rows_of s).runs
  pub entries : map (λ e. ((e.run, e.record_no), e)) t.entries ≡ (rows_of s).entries_by
  pub certificates : t.certificates ≡ (rows_of s).certificates

-- rows that represent no sound state
abbrev pub RepresentNone : TableLists → Type 0
RepresentNone t = (s : State) → Represents t s → IsSound s → ⊥

-- the list begins with those
abbrev pub IsPrefix : {A : Type 0} → List A → List A → Type 0
IsPrefix prefix xs = (rest : List _) × (xs ≡ prefix ++ rest)

-- the rows that have come are the first of these tables, each table by itself; where targets came, all holds had come
-- before them
pub record Begins (prefix t : TableLists) : Type 0 where
  pub days : IsPrefix prefix.days t.days
  pub schedules : IsPrefix prefix.schedules t.schedules
  pub classes : IsPrefix prefix.classes t.classes
  pub aggregations : IsPrefix prefix.aggregations t.aggregations
  pub records : IsPrefix prefix.records t.records
  pub events : IsPrefix prefix.events t.events
  pub contents : IsPrefix prefix.contents t.contents
  pub holds : IsPrefix prefix.holds t.holds
  pub all_holds : prefix.targets ≢ [] → t.holds ≡ prefix.holds
  pub targets : IsPrefix prefix.targets t.targets
  pub runs : IsPrefix prefix.runs t.runs
  pub entries : IsPrefix prefix.entries t.entries
  pub certificates : IsPrefix prefix.certificates t.certificates
