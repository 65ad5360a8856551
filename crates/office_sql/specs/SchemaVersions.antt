-- The two versions of an office's tables. Source: own.
use Rattle.std.specs.Prelude.{ℤ, pos, List, [], ◌∷◌}
use Rattle.sqlite_schema.specs.declared.schema.Table.{Table}
use Rattle.office_sql.specs.Schema.{aggregations, certificates, classes, contents, entries, events, holds, office, records, runs, schedules, schedules2, targets}
use Rattle.office_sql.specs.declared.schema_versions.SchemaVersion.{SchemaVersion}
use Rattle.office_sql.specs.declared.schema_versions.SchemaVersion.TheVariants as schema_version
use Rattle.office_sql.specs.declared.tables.OfficeTable.{OfficeTable}
use Rattle.office_sql.specs.declared.tables.OfficeTable.TheVariants as table

-- the tables of version 1; neither the order of the list nor the trees in which they are have a meaning
abbrev pub version_1 : List Table
version_1 = office ∷ schedules ∷ classes ∷ aggregations ∷ records ∷ contents ∷ holds ∷ targets ∷ runs ∷ entries ∷ certificates ∷ []

-- the tables that version 1 has not
abbrev pub later_tables : List Table
later_tables = schedules2 ∷ events ∷ []

-- the tables of version 2
abbrev pub version_2 : List Table
version_2 = office ∷ schedules ∷ classes ∷ aggregations ∷ records ∷ contents ∷ holds ∷ targets ∷ runs ∷ entries ∷ certificates ∷ schedules2 ∷ events ∷ []

-- the tables of that version
abbrev pub tables_of : SchemaVersion → List Table
tables_of schema_version.One = version_1
tables_of schema_version.Two = version_2

-- its number, as `office` has it
abbrev pub version_of : SchemaVersion → ℤ
version_of schema_version.One = pos 1
version_of schema_version.Two = pos 2

-- the table of the office's schedules
abbrev pub schedules_of : SchemaVersion → Table
schedules_of schema_version.One = schedules
schedules_of schema_version.Two = schedules2

-- the table is one of that version's
abbrev pub IsTableOf : SchemaVersion → OfficeTable → Type 0
IsTableOf schema_version.One table.Schedules = ⊥
IsTableOf schema_version.One table.Events = ⊥
IsTableOf _ _ = Unit {0}

-- the table that is read for its schedules
abbrev pub schedules_table : SchemaVersion → OfficeTable
schedules_table schema_version.One = table.OldSchedules
schedules_table schema_version.Two = table.Schedules
