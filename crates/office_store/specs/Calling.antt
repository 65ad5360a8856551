-- What a call of a store does, and what it leaves of the tables. Source: own.
use Rattle.std.specs.Prelude.{◌≡◌, ◌≢◌, ◌⊎◌, ℕ, Bool, [], ◌∷◌, codes, false, is_some, true, Vec, Option, Some, None, Result, Err, IfErr, IfOk, IsTrue, OnErr, OnOk, option_map}
use Rattle.std.specs.FinMap.{get}
use Rattle.std.specs.Global.{Global}
use Rattle.sqlite.specs.Held.{Held, state}
use Rattle.sqlite.specs.State.{State, HasCleanDisk}
use Rattle.sqlite_schema.specs.Names.{table_named}
use Rattle.sqlite_trees.specs.declared.store.Store.{Ghosts}
use Rattle.office_rules.specs.Acts.{CanBeMade}
use Rattle.office_rules.specs.Rows.{TableRows, rows_of}
use Rattle.office_rules.specs.Sound.{IsSound}
use Rattle.office_rules.specs.State.{State as OfficeState, empty_state}
use Rattle.office_rules.specs.Tables.{TableLists, no_rows}
use Rattle.office_rules.specs.Writes.{all_writes}
use Rattle.office_rules.specs.declared.change.Change.{Change}
use Rattle.office_sql.specs.Names.{has_other_table, has_used_name, layout_of}
use Rattle.office_sql.specs.Office.{HasTables, IsAtRest, IsAtRestOver, IsBlank, KeepsRest, Leaves, SparesRest}
use Rattle.office_sql.specs.Schema.{office}
use Rattle.office_sql.specs.declared.schema_versions.SchemaVersion.{SchemaVersion}
use Rattle.office_sql.specs.declared.schema_versions.SchemaVersion.TheVariants as schema_version
use Rattle.office_store.specs.Adopted.{AreNumbersAndBytes, HoldNoOffice, IsNamed, IsOtherVersion, IsRead, LeavesLess, StaysAtRest}
use Rattle.office_store.specs.RepresentsRows.{ContainsOldRows, ContainsRows, LeavesFirst, LeavesMoved, LeavesOffices, LeavesWithin}
use Rattle.office_store.specs.Stored.{AllReadable}
use Rattle.office_store.specs.declared.fault.Fault.{Fault}
use Rattle.office_store.specs.declared.fault.Fault.TheVariants as fault

-- whether there is a table `office`
abbrev pub has_office_table : State → Bool
has_office_table s = is_some (table_named s.now.schema (codes "office"))

-- the number of the version whose tables are there by their names; 0 where they are neither's
abbrev pub layout_number : Option SchemaVersion → ℕ
layout_number (Some schema_version.One) = 1
layout_number (Some schema_version.Two) = 2
layout_number None = 0

-- ---- a new office

-- the tables are those of a new office, and whatever else was there is kept
pub record AreNew (old new : State) : Type 0 where
  pub rows : ContainsRows (rows_of empty_state) new
  pub rest : Leaves (KeepsRest old.now) new

-- what a crash leaves where a new office was not made
pub record LeavesUnmade (old new : State) : Type 0 where
  pub first : LeavesFirst old new
  pub rest : Leaves (KeepsRest old.now) new
  -- where no fault has shut the connection, nothing was done
  pub undone : IsTrue new.is_open → IsBlank new × (new.now ≡ old.now)

-- why a new office was not made: another of its tables is there, or the database failed
pub record IsUnmadeBy {S : Type 0} (g : Ghosts S) (conn : Held S) (f : Fault) (back : Held S) : Type 0 where
  pub faults : (f ≡ fault.Damaged) ⊎ (f ≡ fault.Store)
  pub damaged : f ≡ fault.Damaged → (has_other_table (state g conn).now.schema ≡ true) × (back ≡ conn)
  -- where another is there it is always so
  pub other : has_other_table (state g conn).now.schema ≡ true → f ≡ fault.Damaged
  -- where anything has one of its names, nothing was done
  pub used : has_used_name (state g conn).now.schema ≡ true → back ≡ conn

-- a store of a new office over the connection
pub record IsCreated {S : Type 0} (g : Ghosts S) (conn store : Held S) : Type 0 where
  -- none of the names of an office's tables was in use
  pub clear : has_used_name (state g conn).now.schema ≡ false
  pub clean : HasCleanDisk (state g store) → HasCleanDisk (state g conn)
  pub shield : (state g conn).IsShielded → (state g store).IsShielded
  pub made : HasCleanDisk (state g store) → IsBlank (state g conn) → AreNew (state g conn) (state g store)

-- the connection is given back with this fault, and there is no new office
pub record IsNotCreated {S : Type 0} (g : Ghosts S) (conn : Held S) (f : Fault) (back : Held S) : Type 0 where
  pub ended : back.in_transaction ≡ false
  pub why : IsUnmadeBy g conn f back
  pub clean : HasCleanDisk (state g back) → HasCleanDisk (state g conn)
  pub shield : (state g conn).IsShielded → (state g back).IsShielded
  pub left : HasCleanDisk (state g back) → IsBlank (state g conn) → LeavesUnmade (state g conn) (state g back)

-- ---- an office that is there

-- its tables came as these rows to what had those, and are as they were
pub record AreTaken (ed : SchemaVersion) (old new : State) (had has : TableLists) : Type 0 where
  -- each table is read whole, where no row had come before
  pub read : had ≡ no_rows → IsRead ed has old.now.trees
  -- each row is of its form, and each value within its limit
  pub form : AllReadable ed old.now.trees
  pub bytes : AreNumbersAndBytes old.now.trees
  pub rest : IsAtRestOver ed new
  pub same : new.now ≡ old.now

-- its tables were not taken over, by this fault
pub record AreNotTaken (ed : SchemaVersion) (old new : State) (f : Fault) (had : TableLists) (Examines : Type 0) :
    Type 0 where
  -- damaged tables are no office's; where each row is of its form, what takes them in examines them
  pub damaged : f ≡ fault.Damaged → had ≡ no_rows → HoldNoOffice ed old.now.trees
  pub form : f ≡ fault.Damaged → AllReadable ed old.now.trees → Examines
  -- another version is reported as such, and never as damage
  pub version : f ≡ fault.Version → IsOtherVersion old.now.trees
  pub this_version : f ≡ fault.Damaged → IsOtherVersion old.now.trees → ⊥
  -- where the database did not fail, the tables are as they were
  pub kept : f ≢ fault.Store → StaysAtRest ed old new
  pub leaves : LeavesLess old new

-- the tables are by their names those of one version, and `office` names that version
pub record AreOfOneVersion {S : Type 0} (g : Ghosts S) (conn store : Held S) : Type 0 where
  pub version : SchemaVersion
  pub layout : layout_of (state g conn).now.schema ≡ Some version
  pub named : HasCleanDisk (state g store) → HasTables (office ∷ []) (state g conn).now
      → IsNamed version (state g conn).now.trees

-- a store over the connection, whose tables were taken over
pub record IsAdopted {S : Type 0} (g : Ghosts S) (conn store : Held S) (had has : TableLists) : Type 0 where
  pub version : AreOfOneVersion g conn store
  pub clean : HasCleanDisk (state g store) → HasCleanDisk (state g conn)
  pub shield : (state g conn).IsShielded → (state g store).IsShielded
  pub taken : (ed : SchemaVersion) → HasCleanDisk (state g store) → IsAtRestOver ed (state g conn)
      → AreTaken ed (state g conn) (state g store) had has

-- tables that are not those of the version that `office` names are reported as damage, unless the database failed
abbrev pub ReportsMixed : {S : Type 0} (g : Ghosts S) (conn back : Held S) (f : Fault) → Type 0
ReportsMixed g conn back f =
    (named : SchemaVersion) → HasCleanDisk (state g back) → HasTables (office ∷ []) (state g conn).now
    → IsNamed named (state g conn).now.trees → layout_of (state g conn).now.schema ≢ Some named
    → (f ≡ fault.Damaged) ⊎ (f ≡ fault.Store)

-- the connection is given back with this fault, and its tables were not taken over
pub record IsNotAdopted {S : Type 0} (g : Ghosts S) (conn : Held S) (f : Fault) (back : Held S) (had : TableLists)
    (Examines : Type 0) : Type 0 where
  pub ended : back.in_transaction ≡ false
  pub faults : f ≢ fault.Reopen
  pub mixed : ReportsMixed g conn back f
  pub clean : HasCleanDisk (state g back) → HasCleanDisk (state g conn)
  pub shield : (state g conn).IsShielded → (state g back).IsShielded
  pub left : (ed : SchemaVersion) → HasCleanDisk (state g back) → IsAtRestOver ed (state g conn)
      → AreNotTaken ed (state g conn) (state g back) f had Examines

-- ---- version 1 made version 2

-- how it ends over tables of version 1 that have these rows
pub record AreMoved {X E : Type 0} (t : TableRows) (old new : State) (result : Result X E) : Type 0 where
  pub ok : OnOk result (ContainsRows t new)
  pub err : OnErr result (LeavesMoved t old new)
  -- where no fault has shut the connection, the old tables are there
  pub undone : IsTrue new.is_open → OnErr result (ContainsOldRows t new)
  pub rest : Leaves (KeepsRest old.now) new

-- how a migration ends
pub record Migrated {X : Type 0} (old new : State) (result : Result X Fault) : Type 0 where
  pub faults : IfErr result (λ f. f ≡ fault.Store)
  pub clean : HasCleanDisk new → HasCleanDisk old
  pub shield : old.IsShielded → new.IsShielded
  pub moved : (s : OfficeState) → HasCleanDisk new → ContainsOldRows (rows_of s) old → AreMoved (rows_of s) old new result

-- ---- a change that is saved

-- how it ends over tables that have the rows of a state
pub record AreSaved {X E : Type 0} (s : OfficeState) (change : Change) (new : State) (result : Result X E) : Type 0
  where
    -- of a change that can be made of a sound state the next rows are there, or a crash leaves the old ones or the next
    pub ok : IsSound s → CanBeMade s.office change
        → OnOk result (ContainsRows (rows_of (all_writes change.writes.items s)) new)
    pub err : IsSound s → CanBeMade s.office change
        → OnErr result (LeavesWithin (rows_of s) (rows_of (all_writes change.writes.items s)) new)
    -- where no fault has shut the connection, the old rows are there
    pub undone : IsTrue new.is_open → OnErr result (ContainsRows (rows_of s) new)

-- whatever a crash leaves is an office's tables again, and the rest of the file is as it was
pub record LeavesOffice (old new : State) : Type 0 where
  pub offices : LeavesOffices new
  pub rest : Leaves (SparesRest old.now) new

-- a disk that is clean now was clean before, and then a crash leaves an office; and later reads are tested as they were
pub record KeepsOffice {S : Type 0} (g : Ghosts S) (old new : Held S) : Type 0 where
  pub clean : HasCleanDisk (state g new) → HasCleanDisk (state g old)
  pub shield : (state g old).IsShielded → (state g new).IsShielded
  pub left : HasCleanDisk (state g new) → IsAtRest (state g old) → LeavesOffice (state g old) (state g new)

-- ---- a content that is read

-- how it ends over tables that have the rows of a state
pub record AreBytesRead (s : OfficeState) (number : ℕ) (new : State) (result : Result (Option (Vec ℕ Global)) Fault) :
    Type 0 where
  pub read : IfOk result (λ bytes. option_map (λ it. it.items) bytes ≡ get s.contents number)
  pub same : OnOk result (ContainsRows (rows_of s) new)
  pub kept : IfErr result (λ f. f ≢ fault.Store → ContainsRows (rows_of s) new)
  pub intact : result ≢ Err fault.Damaged

-- how the reading of a content ends
pub record ReadsBytes (number : ℕ) (old new : State) (result : Result (Option (Vec ℕ Global)) Fault) : Type 0 where
  pub faults : IfErr result (λ f. (f ≢ fault.Reopen) × (f ≢ fault.Version))
  pub clean : HasCleanDisk new → HasCleanDisk old
  pub shield : old.IsShielded → new.IsShielded
  pub leaves : HasCleanDisk new → IsAtRest old → LeavesLess old new
  pub content : (s : OfficeState) → HasCleanDisk new → ContainsRows (rows_of s) old → AreBytesRead s number new result
