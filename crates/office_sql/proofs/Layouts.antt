-- What the names of tables report of an office.
use Rattle.std.proofs.Common.{◌≡◌, ℕ, Option, None, Some, true, false, codes, is_some, refl, ap, ◌∙◌}
use Rattle.sqlite_catalog.proofs.StepLemmas.{no_table}
use Rattle.sqlite_schema.specs.Names.{table_named}
use Rattle.sqlite.specs.Effect.{Database}
use Rattle.sqlite.specs.State.{State}
use Rattle.office_sql.specs.SchemaVersions.{tables_of, version_2}
use Rattle.office_sql.specs.Names.{layout_of}
use Rattle.office_sql.specs.Office.{IsBlank, IsOfficeOf}
use Rattle.office_sql.specs.Schema.{events, office, schedules2}
use Rattle.office_sql.specs.declared.schema_versions.SchemaVersion.{SchemaVersion}
use Rattle.office_sql.specs.declared.schema_versions.SchemaVersion.TheVariants as schema_version
use Rattle.office_sql.proofs.Kept.{represents_in}
use Rattle.office_sql.proofs.OfTwo.{has_events, has_schedules2}
use Rattle.office_sql.proofs.RowByRow.{office_in}

-- the version that they report is that of the office
pub layout_is : (e : SchemaVersion) (db : Database) → IsOfficeOf e db → layout_of db.schema ≡ Some e
layout_is schema_version.One db is =
    let no_schedules = no_table db.schema schedules2.name is.room.free.0 in
    let no_events = no_table db.schema events.name is.room.free.1.0 in
    rw (no_schedules, no_events) refl
layout_is schema_version.Two db is =
    let its = (represents_in version_2 schedules2 has_schedules2 db is.has).named in
    let theirs = (represents_in version_2 events has_events db is.has).named in
    rw (its, theirs) refl

-- there is a table `office`
pub office_named : (e : SchemaVersion) (db : Database) → IsOfficeOf e db → is_some (table_named db.schema (codes "office")) ≡ true
office_named e db is = ap is_some (represents_in (tables_of e) office (office_in e) db is.has).named

-- and where there is room for an office there is none
pub office_not_named : (s : State) → IsBlank s → is_some (table_named s.now.schema (codes "office")) ≡ false
office_not_named s blank = ap is_some (no_table s.now.schema office.name blank.bare.room.free.0)
