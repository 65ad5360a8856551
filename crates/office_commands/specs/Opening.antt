-- Whether the office in a file was opened. Source: own.
use Rattle.std.specs.Prelude.{◌≡◌, ◌≢◌, ◌⊎◌, ℕ, List, Option, false, true}
use Rattle.sqlite.specs.Held.{state}
use Rattle.sqlite.specs.State.{State as FileState, HasCleanDisk}
use Rattle.sqlite_trees.specs.declared.store.Store.{Ghosts}
use Rattle.office_rules.specs.Rows.{rows_of}
use Rattle.office_rules.specs.Sound.{IsSound}
use Rattle.office_rules.specs.State.{Office, State, empty_state}
use Rattle.office_sql.specs.Names.{has_other_table, has_used_name}
use Rattle.office_sql.specs.declared.schema_versions.SchemaVersion.{SchemaVersion}
use Rattle.office_sql.specs.Office.{IsAtRest, IsAtRestOver, IsBlank}
use Rattle.office_store.specs.Adopted.{LeavesLess}
use Rattle.office_store.specs.Calling.{has_office_table}
use Rattle.office_store.specs.RepresentsRows.{ContainsRows, RepresentsRowsIn}
use Rattle.office_store.specs.declared.fault.Fault.{Fault}
use Rattle.office_store.specs.declared.fault.Fault.TheVariants as fault
use Rattle.office_desk.specs.Desk.{DeskState}
use Rattle.office_desk.specs.Leaving.{IsAt}
use Rattle.office_desk.specs.Opening.{IsOpenable, LeavesRest, OpenFailedLeaves, RepresentIn}
use Rattle.office_commands.specs.declared.exit.Exit.{Exit}
use Rattle.office_commands.specs.declared.exit.Exit.TheVariants as how

-- whatever a crash leaves has kept all that is not the office's
abbrev pub IsRestKept : FileState → FileState → Type 0
IsRestKept old new = HasCleanDisk new → IsOpenable old → LeavesRest old new

-- ---- the state with which an office was opened

-- s is the state with which the office in a file was opened, if the disk is clean now: the empty one, if there was room
-- for a new office; else a sound state whose rows the tables have, in either version
abbrev pub WasFound : FileState → FileState → State → Type 0
WasFound old new s =
    HasCleanDisk new
    × (IsBlank old × (s ≡ empty_state)
    ⊎ ((ed : SchemaVersion) × IsAtRestOver ed old × IsSound s × RepresentsRowsIn ed (rows_of s) old.now.trees))

-- there is such a state: tables of an office that were in the file represent one
abbrev pub RepresentSome : FileState → FileState → Type 0
RepresentSome old new =
    (ed : SchemaVersion) → HasCleanDisk new → IsAtRestOver ed old → (s : State) × RepresentIn ed old.now.trees s

-- s is the state at which a desk was before a call, if the disk is clean now
abbrev pub WasAt : {S : Type 0} → Ghosts S → (old new : DeskState S) → State → Type 0
WasAt g old new s = HasCleanDisk (state g new.connection) × IsAt g s old

-- the office in a file was opened, and more was done then
pub record WasOpened (old new : FileState) : Type 0 where
  pub found : RepresentSome old new
  pub rest : IsRestKept old new

-- an office was opened and stays as it was opened: a new one if there was none, else the one that the tables represent
pub record IsOpened (old new : FileState) (office : Office) : Type 0 where
  -- it is made anew only if none of its names is in use
  pub clear : has_office_table old ≡ false → has_used_name old.now.schema ≡ false
  pub found : RepresentSome old new
  pub is : (s : State) → WasFound old new s → s.office ≡ office
  pub rows : (s : State) → WasFound old new s → ContainsRows (rows_of s) new
  -- tables of version 2 are as they were; those of version 1 were migrated to version 2
  pub same : HasCleanDisk new → IsAtRest old → new.now ≡ old.now
  pub rest : IsRestKept old new

-- ---- an office that was not opened

-- the office was not opened, by this fault
pub record OfficeOpenFailed (f : Fault) (old new : FileState) : Type 0 where
  -- what a crash leaves, by what was there
  pub left : HasCleanDisk new → OpenFailedLeaves old new f
  pub anew : has_office_table old ≡ false → (f ≡ fault.Damaged) ⊎ (f ≡ fault.Store)
  -- damaged without a table `office`: just where another of its tables is there, and then nothing was done
  pub other_tables : has_office_table old ≡ false → f ≡ fault.Damaged
      → (has_other_table old.now.schema ≡ true) × (new.now ≡ old.now) × LeavesLess old new
  pub always : has_office_table old ≡ false → has_other_table old.now.schema ≡ true → f ≡ fault.Damaged
  -- where anything has one of its names, nothing was done
  pub used : has_office_table old ≡ false → has_used_name old.now.schema ≡ true
      → (new.now ≡ old.now) × LeavesLess old new
  pub faults : f ≢ fault.Reopen
  pub outside : new.in_transaction ≡ false

-- the office was not opened, by this fault, and nothing is written
abbrev pub EndsOpenFailed : FileState → FileState → Option (List ℕ) → Option (List ℕ) → Exit → Type 0
EndsOpenFailed old new written after exit =
    (f : Fault) × (exit ≡ how.Fault f) × OfficeOpenFailed f old new × (after ≡ written)
