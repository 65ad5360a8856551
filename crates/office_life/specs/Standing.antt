-- For which state of an office two files stand, and to which others a stint leads from there. Source: own.
use Rattle.std.specs.Prelude.{◌≡◌, ◌⊎◌, IsTrue}
use Rattle.sqlite_disk.specs.declared.Disk.{Ghosts}
use Rattle.sqlite_store.specs.declared.store.FileStore.{FileStore}
use Rattle.sqlite_trees.specs.Tree.{Trees}
use Rattle.sqlite_wal.specs.Files.{outcomes}
use Rattle.sqlite_wal.specs.Recovery.{Image}
use Rattle.sqlite.specs.Closing.{files_left}
use Rattle.sqlite.specs.Files.{HoldsDatabase, IsEmpty, IsNothing, over_files}
use Rattle.sqlite.specs.State.{State as FileState}
use Rattle.sqlite.specs.declared.file.Leftover.{Leftover}
use Rattle.sqlite.specs.declared.file.Leftover.TheVariants as left
use Rattle.office_rules.specs.Rows.{rows_of}
use Rattle.office_rules.specs.Sound.{IsSound}
use Rattle.office_rules.specs.State.{State, empty_state}
use Rattle.office_sql.specs.Office.{IsAtRestOver, IsBlank}
use Rattle.office_sql.specs.declared.schema_versions.SchemaVersion.{SchemaVersion}
use Rattle.office_store.specs.RepresentsRows.{RepresentsRowsIn}
use Rattle.office_desk.specs.Desk.{DeskState}
use Rattle.office_desk.specs.Leaving.{IsAt}
use Rattle.office_life.specs.Tables.{AreTablesAt, ContainTables}
use Rattle.office_life.specs.declared.reports.Remains.{Remains}
use Rattle.office_life.specs.declared.reports.Remains.TheVariants as remains

-- the disk takes no wrong answer as true
abbrev pub NeverLies : {D : Type 0} → Ghosts D → Type 0
NeverLies {D} g = (disk : D) → IsTrue (g.is_clean disk)

-- ---- files

-- how far the making of a file may have come: it holds tables; or it may be none yet; or an opening may have begun one
pub data Stage : Type 0 where
  stored : Stage
  unmade : Stage
  half_made : Stage

-- no file yet, as far as that stage knows
abbrev pub IsNoneAt : Stage → Image → Type 0
IsNoneAt stored image = ⊥
IsNoneAt unmade image = IsNothing image
IsNoneAt half_made image = IsNothing image ⊎ ((db : Trees) × HoldsDatabase image db × IsEmpty db)

-- the two files stand for an office at this state: they hold its tables, or there is no file yet and it is the empty one
abbrev pub StandsAt : Stage → Image → State → Type 0
StandsAt stage image u =
    ((db : Trees) × ContainTables image db × AreTablesAt db u) ⊎ (IsNoneAt stage image × (u ≡ empty_state))

-- what a crash leaves of what is left of the two files
abbrev pub outcomes_left : {D : Type 0} {g : Ghosts D} → Leftover D g → Image → Type 0
outcomes_left {g = g} rest = outcomes g (files_left rest).0 (files_left rest).1

-- what is known of files that were not opened
abbrev pub remains_of : {D : Type 0} {g : Ghosts D} → Leftover D g → Remains
remains_of (left.Files files) = remains.Same
remains_of (left.Unopened files) = remains.Begun
remains_of (left.Store store) = remains.Unread

-- at that stage it is known for which state the files stand that a stint left
abbrev pub IsKnownAt : Stage → Remains → Type 0
IsKnownAt stage remains.Held = Unit {0}
IsKnownAt stage remains.Same = Unit {0}
IsKnownAt stored remains.Begun = Unit {0}
IsKnownAt unmade remains.Begun = Unit {0}
IsKnownAt half_made remains.Begun = ⊥
IsKnownAt stage remains.Unread = ⊥
IsKnownAt stage remains.Shut = ⊥

-- the stage at which they are then
abbrev pub stage_after : Stage → Remains → Stage
stage_after stage remains.Held = stored
stage_after stage remains.Same = stage
stage_after stored remains.Begun = stored
stage_after unmade remains.Begun = half_made
stage_after half_made remains.Begun = half_made
stage_after stage remains.Unread = stage
stage_after stage remains.Shut = stage

-- whatever a crash leaves of the files stands for a state to which one leads for which they stood, as something that a
-- crash could leave of them before
abbrev pub FilesLead : Stage → Stage → (State → State → Type 0) → (Image → Type 0) → (Image → Type 0) → Type 0
FilesLead was is Leads old new =
    (image : Image) → new image
    → ∥ ((before : Image) × old before
    × ((s : State) → StandsAt was before s → ∥ ((u : State) × Leads s u × StandsAt is image u) ∥₁)) ∥₁

-- a desk is at a state to which one leads for which the files stood, as something that a crash could leave of them
abbrev pub FindsLed : {D : Type 0} {g : Ghosts D} → Stage → (State → State → Type 0) → (Image → Type 0) → DeskState (FileStore D g) → Type 0
FindsLed stage Leads old desk =
    ∥ ((before : Image) × old before
    × ((s : State) → StandsAt stage before s → ∥ ((u : State) × Leads s u × IsAt over_files u desk) ∥₁)) ∥₁

-- ---- a connection to them

-- it is at rest over the tables of an office at this state, or over none, for the empty one
abbrev pub RestsAt : FileState → State → Type 0
RestsAt held s =
    ((ed : SchemaVersion) × IsAtRestOver ed held × IsSound s × RepresentsRowsIn ed (rows_of s) held.now.trees)
    ⊎ (IsBlank held × IsEmpty held.now.trees × (s ≡ empty_state))

-- whatever tables a crash leaves, they are at a state of this kind
abbrev pub LeavesAt : (State → Type 0) → FileState → Type 0
LeavesAt Is held = (db : Trees) → held.may_leave db → (u : State) × Is u × AreTablesAt db u
