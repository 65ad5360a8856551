-- The tables that two files hold, and the state of an office at which they are. Source: own.
use Rattle.std.specs.Prelude.{◌≡◌, ◌⊎◌, ℕ}
use Rattle.sqlite_pool.specs.Stored.{stored_size}
use Rattle.sqlite_trees.specs.Tree.{Trees}
use Rattle.sqlite_wal.specs.PageSize.{IsPageSize}
use Rattle.sqlite_wal.specs.Recovery.{Image}
use Rattle.sqlite.specs.Files.{IsEmpty}
use Rattle.sqlite.specs.Opening.{HoldsAt}
use Rattle.office_rules.specs.Rows.{rows_of}
use Rattle.office_rules.specs.Sound.{IsSound}
use Rattle.office_rules.specs.State.{State, empty_state}
use Rattle.office_sql.specs.Office.{IsOfficeIn}
use Rattle.office_sql.specs.declared.schema_versions.SchemaVersion.{SchemaVersion}
use Rattle.office_store.specs.RepresentsRows.{RepresentsRowsIn}

-- the two files hold these tables, and where the file has sums, each page has its sum
abbrev pub ContainTables : Image → Trees → Type 0
ContainTables image tables = (size : ℕ) × IsPageSize (stored_size size) × HoldsAt size image tables

-- tables of an office, of either version, at this state
pub record IsOfficeAt (tables : Trees) (u : State) : Type 0 where
  pub schema_version : SchemaVersion
  pub office : IsOfficeIn schema_version tables
  pub sound : IsSound u
  pub rows : RepresentsRowsIn schema_version (rows_of u) tables

-- the same, or no table yet: then it is the empty office, which is to be made
abbrev pub AreTablesAt : Trees → State → Type 0
AreTablesAt tables u = IsOfficeAt tables u ⊎ (IsEmpty tables × (u ≡ empty_state))
