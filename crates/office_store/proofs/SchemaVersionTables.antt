-- The schedules of either version are read of their own table, the events of version 2 of theirs, and what is reported of the version by the names of tables.
use Rattle.std.proofs.Common.{All, List, [], ◌∷◌, true, false, refl, sym, subst, arith}
use Rattle.std.proofs.lemmas.List.Sorted.{IsPermutation-refl}
use Rattle.sqlite_value.specs.Order.{Row}
use Rattle.sqlite_trees.specs.Tree.{Trees}
use Rattle.office_sql.specs.Bags.{rows_of}
use Rattle.office_sql.specs.SchemaVersions.{IsTableOf, schedules_of, schedules_table}
use Rattle.office_sql.specs.declared.schema_versions.SchemaVersion.{SchemaVersion}
use Rattle.office_sql.specs.declared.schema_versions.SchemaVersion.TheVariants as schema_version
use Rattle.office_sql.specs.declared.tables.OfficeTable.TheVariants as table
use Rattle.office_sql.specs.Reads.{IsByKey, bag_of, key_of}
use Rattle.office_store.specs.RepresentsRows.{events_in}
use Rattle.office_store.specs.Taken.{HaveEventsCome}

pub schedules_by_key : (ed : SchemaVersion) (db : Trees) (rows : List Row) → IsByKey (key_of (schedules_table ed)) (bag_of (schedules_table ed) db) rows → IsByKey (0 ∷ []) (rows_of (schedules_of ed) db) rows
schedules_by_key schema_version.One db rows by = by
schedules_by_key schema_version.Two db rows by = by

pub all_schedules_too : (P : Row → Type 0) (ed : SchemaVersion) (db : Trees) → All P (rows_of (schedules_of ed) db) → All P (bag_of (schedules_table ed) db)
all_schedules_too P schema_version.One db all = all
all_schedules_too P schema_version.Two db all = all

pub only_schedules : (P : Row → Type 0) (ed : SchemaVersion) (db : Trees) → All P (bag_of (schedules_table ed) db) → All P (rows_of (schedules_of ed) db)
only_schedules P schema_version.One db all = all
only_schedules P schema_version.Two db all = all

pub schedules_are_a_table : (ed : SchemaVersion) → IsTableOf ed (schedules_table ed)
schedules_are_a_table schema_version.One = tt
schedules_are_a_table schema_version.Two = tt

-- no event has come yet
pub no_event_yet : (ed : SchemaVersion) (db : Trees) → HaveEventsCome ed false false db []
no_event_yet schema_version.One db = refl
no_event_yet schema_version.Two db = refl

-- the events that have come whole are read
pub events_by_key : (ed : SchemaVersion) (db : Trees) (rows : List Row) → HaveEventsCome ed true true db rows → IsByKey (0 ∷ []) (events_in ed db) rows
events_by_key schema_version.One db rows none = subst (IsByKey (0 ∷ []) []) (sym none) (record { same = IsPermutation-refl _; sorted = λ k d low high. absurd (omega arith) })
events_by_key schema_version.Two db rows by = by

-- the tables of both versions

pub classes_in : (ed : SchemaVersion) → IsTableOf ed table.Classes
classes_in schema_version.One = tt
classes_in schema_version.Two = tt

pub aggregations_in : (ed : SchemaVersion) → IsTableOf ed table.Aggregations
aggregations_in schema_version.One = tt
aggregations_in schema_version.Two = tt

pub records_in : (ed : SchemaVersion) → IsTableOf ed table.Records
records_in schema_version.One = tt
records_in schema_version.Two = tt

pub contents_in : (ed : SchemaVersion) → IsTableOf ed table.Contents
contents_in schema_version.One = tt
contents_in schema_version.Two = tt

pub holds_in : (ed : SchemaVersion) → IsTableOf ed table.Holds
holds_in schema_version.One = tt
holds_in schema_version.Two = tt

pub targets_in : (ed : SchemaVersion) → IsTableOf ed table.Targets
targets_in schema_version.One = tt
targets_in schema_version.Two = tt

pub runs_in : (ed : SchemaVersion) → IsTableOf ed table.Runs
runs_in schema_version.One = tt
runs_in schema_version.Two = tt

pub entries_in : (ed : SchemaVersion) → IsTableOf ed table.Entries
entries_in schema_version.One = tt
entries_in schema_version.Two = tt

pub certificates_in : (ed : SchemaVersion) → IsTableOf ed table.Certificates
certificates_in schema_version.One = tt
certificates_in schema_version.Two = tt

pub old_schedules_in : (ed : SchemaVersion) → IsTableOf ed table.OldSchedules
old_schedules_in schema_version.One = tt
old_schedules_in schema_version.Two = tt
