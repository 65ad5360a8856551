-- What the laws say from one run of the program over an office's files to the next. Source: own.
use Rattle.std.specs.Prelude.{ℕ, List, Option, Some}
use Rattle.sqlite_disk.specs.declared.Disk.{Ghosts}
use Rattle.sqlite_disk.specs.declared.Files.{Files}
use Rattle.sqlite_store.specs.FileStore.{state as store_state}
use Rattle.sqlite_store.specs.declared.store.FileStore.{FileStore}
use Rattle.sqlite_trees.specs.Tree.{Trees}
use Rattle.sqlite_wal.specs.Files.{outcomes}
use Rattle.sqlite_wal.specs.Reads.{AreClean}
use Rattle.sqlite_wal.specs.Recovery.{Image}
use Rattle.sqlite.specs.Files.{file_state, image_of}
use Rattle.sqlite.specs.Held.{Held}
use Rattle.office_access.specs.Settings.{Settings}
use Rattle.office_sql.specs.declared.schema_versions.SchemaVersion.{SchemaVersion}
use Rattle.office_sql.specs.Office.{IsOfficeIn}
use Rattle.office_rules.specs.State.{State}
use Rattle.office_command_line.specs.Orders.{Command}
use Rattle.office_commands.specs.Files.{ContainedOffice, GatesInFiles, IsLeftOf, LeavesAnOffice, RunsInFiles, ServesInFiles}
use Rattle.office_commands.specs.NextCommand.{ContainOffice, ContainWholeOffice, IsGatedTo, IsLeftBy, IsServedTo, LeavesFilesAt}
use Rattle.office_commands.specs.OpenResult.{OpenResult}
use Rattle.office_commands.specs.declared.exit.Exit.{Exit}
use Rattle.office_commands.specs.declared.office_files.FilesLeft.{FilesLeft}
use Rattle.office_commands.specs.declared.office_files.FilesLeft.TheVariants as files

-- two files hold these tables of an office, as they read now and after any crash
pub record KeepOffice {D : Type 0} (g : Ghosts D) (ed : SchemaVersion) (it : Files D) (trees : Trees) : Type 0 where
  pub now : ContainedOffice ed (image_of g it) trees
  pub after_a_crash : (image : Image) → outcomes g it.log it.db image → ContainedOffice ed image trees

-- a connection whose last commit is an office's was closed: its files hold that office
abbrev pub ClosedFilesKeepOffice : {D : Type 0} → Ghosts D → Type 0
ClosedFilesKeepOffice {D} g =
    (last : Held (FileStore D g)) (it : Files D) (ed : SchemaVersion) → IsLeftOf last (files.Closed it)
    → AreClean g it.log it.db
    → IsOfficeIn ed (file_state last).committed.trees → KeepOffice g ed it (file_state last).committed.trees

-- the process ended with a connection of which a crash leaves an office, whatever it leaves: the files hold one of
-- those offices
abbrev pub CrashContainsOffice : {D : Type 0} {g : Ghosts D} → Held (FileStore D g) → Type 0
CrashContainsOffice last =
    LeavesAnOffice (file_state last) → (left : Image) → (store_state last.store).may_leave left
    → ∥ ((trees : Trees) × (ed : SchemaVersion) × (file_state last).may_leave trees × ContainedOffice ed left trees) ∥₁

-- over files that hold an office at a state a command was run: they hold one at a state at which the command leaves it
abbrev pub CommandLeavesOffice : {D : Type 0} → Ghosts D → Type 0
CommandLeavesOffice {D} g =
    (image : Image) (s : State) (order : Command) (text : List ℕ) (written after : Option (List ℕ)) (exit : Exit)
    (opened : OpenResult g) (left : FilesLeft D g)
    → ContainOffice image s → RunsInFiles left image opened order (Some text) written after exit
    → LeavesFilesAt image s (IsLeftBy order text written after exit s) left

-- the same of a service, which leaves the office after some acts
abbrev pub ServiceLeavesOffice : {D : Type 0} → Ghosts D → Type 0
ServiceLeavesOffice {D} g =
    (image : Image) (s : State) (port count : ℕ) (written after : Option (List ℕ)) (exit : Exit)
    (opened : OpenResult g) (left : FilesLeft D g)
    → ContainOffice image s → ServesInFiles left image opened port count written after exit
    → LeavesFilesAt image s (IsServedTo s) left

-- and of a gate, which leaves the office where it came by what was permitted alone
abbrev pub GateLeavesOffice : {D : Type 0} → Ghosts D → Type 0
GateLeavesOffice {D} g =
    (image : Image) (s : State) (first : Settings) (port count : ℕ) (written after : Option (List ℕ)) (exit : Exit)
    (opened : OpenResult g) (left : FilesLeft D g)
    → ContainOffice image s → GatesInFiles left image opened first port count written after exit
    → LeavesFilesAt image s (IsGatedTo first s) left

-- an office of which each page has its sum, if the file has sums, is one
abbrev pub WholeIsOffice : Type 0
WholeIsOffice = (image : Image) (s : State) → ContainWholeOffice image s → ContainOffice image s
