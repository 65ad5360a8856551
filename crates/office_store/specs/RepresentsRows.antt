-- When the tables in the database represent the rows of an office. Source: own.
use Rattle.std.specs.Prelude.{◌≡◌, ◌⊎◌, ℕ, Bool, pos, List, [], ◌∷◌, map, IsPermutation}
use Rattle.std.specs.List.{list_any}
use Rattle.std.specs.FinMap as finmap
use Rattle.sqlite_value.specs.Order.{Row}
use Rattle.sqlite_trees.specs.Tree.{Trees}
use Rattle.sqlite_schema.specs.declared.schema.Table.{Table}
use Rattle.sqlite.specs.Effect.{Database}
use Rattle.sqlite.specs.State.{State}
use Rattle.office_rules.specs.HoldLoading.{is_pair}
use Rattle.office_records.specs.declared.target.Target.{Target}
use Rattle.office_rules.specs.Rows.{TableRows, rows_of}
use Rattle.office_rules.specs.State.{ByteMap, State as OfficeState, empty_state}
use Rattle.office_rules.specs.Writes.{all_writes}
use Rattle.office_rules.specs.declared.change.Change.{Change}
use Rattle.office_sql.specs.Bags as bags
use Rattle.office_sql.specs.SchemaVersions.{schedules_of, version_of}
use Rattle.office_sql.specs.declared.schema_versions.SchemaVersion.{SchemaVersion}
use Rattle.office_sql.specs.declared.schema_versions.SchemaVersion.TheVariants as schema_version
use Rattle.office_sql.specs.Office.{IsAtRest, IsAtRestOver, IsOfficeIn}
use Rattle.office_sql.specs.Schema.{aggregations, certificates, classes, contents, entries, events, holds, office, records, runs, schedules, targets}
use Rattle.office_sql.specs.Shown.{certificate_row, content_row, office_row}
use Rattle.office_store.specs.Written.{AreWritten}
use Rattle.office_store.specs.Encoded.{encoded_aggregation, encoded_class, encoded_entry, encoded_event, encoded_hold, encoded_record, encoded_run, encoded_schedule, encoded_target}

-- the table has these rows and no others, in any order
abbrev pub Has : Table → Trees → List Row → Type 0
Has table db rows = IsPermutation rows (bags.rows_of table db)

-- `targets` has each pair of hold and target that there is, and no other
abbrev pub HasTargets : Trees → (List ℕ → Target → Bool) → Type 0
HasTargets db is_target =
    (pairs : List (List ℕ × Target)) × Has targets db (map (λ e. encoded_target e.0 e.1) pairs)
    × ((code : List ℕ) (target : Target) → list_any (λ e. is_pair e.0 e.1 code target) pairs ≡ is_target code target)

-- `contents` has these contents, and no other
abbrev pub HasContents : Trees → ByteMap → Type 0
HasContents db bytes = Has contents db (map (λ e. content_row (pos e.0) e.1) (finmap.entries bytes))

-- the rows of `events`; version 1 has no events
abbrev pub events_in : SchemaVersion → Trees → List Row
events_in schema_version.One db = []
events_in schema_version.Two db = bags.rows_of events db

-- `schedules` has no row in version 2
abbrev pub IsEmptied : SchemaVersion → Trees → Type 0
IsEmptied schema_version.One db = Unit {0}
IsEmptied schema_version.Two db = Has schedules db []

-- the tables of that version have these rows; `office` has one, of that version
pub record RepresentsRowsIn (e : SchemaVersion) (t : TableRows) (db : Trees) : Type 0 where
  pub office : Has office db (office_row (pos 1) (version_of e) t.day ∷ [])
  pub schedules : Has (schedules_of e) db (map (λ e. encoded_schedule e.0 e.1) t.schedules)
  pub classes : Has classes db (map (λ e. encoded_class e.0 e.1) t.classes)
  pub aggregations : Has aggregations db (map (λ e. encoded_aggregation e.0 e.1) t.aggregations)
  pub records : Has records db (map (λ e. encoded_record e.0 e.1) t.records)
  pub events : IsPermutation (map (λ e. encoded_event e.0 e.1) t.events) (events_in e db)
  pub contents : Has contents db (map (λ e. content_row (pos e.0) e.1) t.contents)
  pub holds : Has holds db (map (λ e. encoded_hold e.0 e.1) t.holds)
  pub targets : HasTargets db t.targets
  pub runs : Has runs db (map (λ e. encoded_run e.0 e.1) t.runs)
  pub entries : Has entries db (map (λ e. encoded_entry e.1) t.entries_by)
  pub certificates : Has certificates db (map (λ e. certificate_row (pos e.0) e.1) t.certificates)
  pub emptied : IsEmptied e db

-- those of version 2
abbrev pub RepresentsRows : TableRows → Trees → Type 0
RepresentsRows t db = RepresentsRowsIn schema_version.Two t db

-- those of version 1
abbrev pub OldRepresentsRows : TableRows → Trees → Type 0
OldRepresentsRows t db = RepresentsRowsIn schema_version.One t db

-- between calls: the tables have these rows, and a crash leaves just these
pub record ContainsRows (t : TableRows) (s : State) : Type 0 where
  pub rest : IsAtRest s
  pub represents : RepresentsRows t s.now.trees

-- the same of an office of version 1
pub record ContainsOldRows (t : TableRows) (s : State) : Type 0 where
  pub rest : IsAtRestOver schema_version.One s
  pub represents : OldRepresentsRows t s.now.trees

-- the tables are such as opening asks of an office: those of a sound database that has an office's, beside whatever
-- else
abbrev pub AreOfficeTables : Trees → Type 0
AreOfficeTables db = IsOfficeIn schema_version.Two db

-- whatever tables a crash leaves, they are an office's again
abbrev pub LeavesOffices : State → Type 0
LeavesOffices s = (db : Trees) → s.may_leave db → AreOfficeTables db

-- a crash leaves an office's tables, of these rows or of those
pub record LeavesWithin (t u : TableRows) (s : State) : Type 0 where
  pub offices : LeavesOffices s
  pub either : (db : Trees) → s.may_leave db → RepresentsRows t db ⊎ RepresentsRows u db

-- a crash leaves what was there, or the tables of version 2 that have these rows
abbrev pub LeavesMoved : TableRows → State → State → Type 0
LeavesMoved t old new =
    (db : Trees) → new.may_leave db → (db ≡ old.now.trees) ⊎ (RepresentsRows t db × AreOfficeTables db)

-- a crash leaves what was there, or the tables of a new office
abbrev pub LeavesFirst : State → State → Type 0
LeavesFirst old new =
    (db : Trees) → new.may_leave db → (db ≡ old.now.trees)
    ⊎ (RepresentsRows (rows_of empty_state) db × AreOfficeTables db)

-- the writes of a change make tables that have the rows of a state those of the next
abbrev pub SavesRows : OfficeState → Change → Type 0
SavesRows s change =
    (old new : Database) → RepresentsRows (rows_of s) old.trees → AreWritten change.writes.items old new
    → RepresentsRows (rows_of (all_writes change.writes.items s)) new.trees
