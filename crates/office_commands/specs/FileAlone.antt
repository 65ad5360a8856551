-- What a run of the program that exited leaves in FILE, without its log. Source: own.
use Rattle.std.specs.Prelude.{◌≡◌, ◌≢◌, ◌⊎◌, ◌<◌, ℕ, IsTrue, List, [], Option, Some}
use Rattle.sqlite_disk.specs.declared.Disk.{Ghosts}
use Rattle.sqlite_disk.specs.declared.Files.{Files}
use Rattle.sqlite_store.specs.FileStore.{faults}
use Rattle.sqlite_store.specs.declared.store.FileStore.{FileStore}
use Rattle.sqlite_trees.specs.declared.error.StoreError.TheVariants as store
use Rattle.sqlite_wal.specs.Files.{outcomes}
use Rattle.sqlite_wal.specs.Recovery.{Image}
use Rattle.sqlite.specs.Files.{file_state, image_of}
use Rattle.sqlite.specs.Held.{Held}
use Rattle.office_rules.specs.State.{State}
use Rattle.office_store.specs.declared.fault.Fault.{Fault}
use Rattle.office_command_line.specs.Orders.{Command}
use Rattle.office_commands.specs.Damage.{IsLeftClean}
use Rattle.office_commands.specs.Files.{IsClosedCopy, IsLeftOf, RunsInFiles}
use Rattle.office_commands.specs.NextCommand.{ContainOffice, IsLeftBy}
use Rattle.office_commands.specs.OpenResult.{OpenResult}
use Rattle.office_commands.specs.declared.exit.Exit.{Exit}
use Rattle.office_commands.specs.declared.exit.Exit.TheVariants as how
use Rattle.office_commands.specs.declared.office_files.FilesLeft.{FilesLeft}
use Rattle.office_commands.specs.declared.office_files.FilesLeft.TheVariants as files

-- FILE alone contains the office at this state, whatever becomes of the log
abbrev pub FileContainsOffice : Image → State → Type 0
FileContainsOffice image u = ContainOffice (record image { log = [] }) u

-- the exit reports no fault, and no text that could not be read or written
abbrev pub IsFaultless : Exit → Type 0
IsFaultless exit = ((f : Fault) → exit ≢ how.Fault f) × (exit ≢ how.File)

module _ {D : Type 0} {g : Ghosts D} where
  -- the files were closed: FILE alone contains the office at a state of this kind, as it reads now and after any crash
  pub record IsInFileAlone (Is : State → Type 0) (left : FilesLeft D g) : Type 0 where
    pub pair : Files D
    pub closed : left ≡ files.Closed pair
    pub state : State
    pub is : Is state
    pub now : FileContainsOffice (image_of g pair) state
    pub after_a_crash : (image : Image) → outcomes g pair.log pair.db image → FileContainsOffice image state

  -- the files could not be closed: a call of the disk failed or a limit of the format was met since they were opened,
  -- or memory was refused as they were closed
  abbrev pub IsHindered : FilesLeft D g → Type 0
  IsHindered (files.Unopened left) = ⊥
  IsHindered (files.Closed pair) = ⊥
  IsHindered (files.Unclosed last why) = (0 < faults last) ⊎ (why ≡ store.OutOfMemory)

-- a connection was closed that was open until then: its last commit is in FILE alone
abbrev pub ClosingLeavesFileAlone : {D : Type 0} → Ghosts D → Type 0
ClosingLeavesFileAlone {D} g =
    (last : Held (FileStore D g)) (left : FilesLeft D g) → IsLeftOf last left → IsLeftClean left
    → IsTrue (file_state last).is_open
    → ((pair : Files D) × (left ≡ files.Closed pair) × IsClosedCopy last pair) ⊎ IsHindered left

-- a command exited by itself: FILE alone contains every act
abbrev pub CommandLeavesFileAlone : {D : Type 0} → Ghosts D → Type 0
CommandLeavesFileAlone {D} g =
    (image : Image) (s : State) (order : Command) (text : List ℕ) (written after : Option (List ℕ)) (exit : Exit)
    (opened : OpenResult g) (left : FilesLeft D g)
    → ContainOffice image s → RunsInFiles left image opened order (Some text) written after exit
    → IsFaultless exit → IsLeftClean left
    → IsInFileAlone (IsLeftBy order text written after exit s) left ⊎ IsHindered left
