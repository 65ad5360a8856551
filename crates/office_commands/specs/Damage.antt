-- Damage is found: after its opening a run takes no wrong answer of the disk as true, or a digest collided. Source: own.
use Rattle.std.specs.Prelude.{◌≡◌, ◌⊎◌, ℕ, List, Option, Ok, Err}
use Rattle.sqlite_disk.specs.declared.Disk.{Ghosts}
use Rattle.sqlite_disk.specs.Events.{Event, HasCollision}
use Rattle.sqlite_store.specs.FileStore.{files as two_files, is_shielded, view}
use Rattle.sqlite_store.specs.declared.store.FileStore.{FileStore}
use Rattle.sqlite_trees.specs.View.{IsClean}
use Rattle.sqlite_wal.specs.Reads.{AreClean}
use Rattle.sqlite_wal.specs.Recovery.{Image}
use Rattle.sqlite.specs.Files.{file_state, over_files}
use Rattle.sqlite.specs.Held.{Held}
use Rattle.sqlite.specs.State.{HasCleanDisk}
use Rattle.office_access.specs.Settings.{Settings}
use Rattle.office_store.specs.declared.fault.Fault.TheVariants as fault
use Rattle.office_command_line.specs.Orders.{Command}
use Rattle.office_commands.specs.Files.{GatesInFiles, IsLeftShielded, IsOpenedFrom, RunsInFiles, ServesInFiles}
use Rattle.office_commands.specs.OpenResult.{OpenResult}
use Rattle.office_commands.specs.Running.{RunEnds}
use Rattle.office_commands.specs.Serving.{GateEnds, ServiceEnds}
use Rattle.office_commands.specs.declared.exit.Exit.{Exit}
use Rattle.office_commands.specs.declared.exit.Exit.TheVariants as how
use Rattle.office_commands.specs.declared.office_files.FilesLeft.{FilesLeft}
use Rattle.office_commands.specs.declared.office_files.FilesLeft.TheVariants as files

-- no wrong answer of the disk was taken as true
abbrev pub IsLeftClean : {D : Type 0} {g : Ghosts D} → FilesLeft D g → Type 0
IsLeftClean (files.Unopened left) = Unit {0}
IsLeftClean {g = g} (files.Closed it) = AreClean g it.log it.db
IsLeftClean (files.Unclosed store why) = IsClean (view store)

-- a read of one of the two files returned other bytes than were written there, of the same digest under the key of the
-- log
abbrev pub HaveCollided : {D : Type 0} → Ghosts D → (D → List ℕ) → (D → List Event) → D × D → Type 0
HaveCollided g start calls it =
    HasCollision (g.key_of it.0) (start it.0) (calls it.0) ⊎ HasCollision (g.key_of it.0) (start it.1) (calls it.1)

-- the calls of each file are recorded: what it held before the first, and each with its answer
module _ {D : Type 0} {g : Ghosts D} (start : D → List ℕ) (calls : D → List Event) where
  abbrev pub HasLeftCollided : FilesLeft D g → Type 0
  HasLeftCollided (files.Unopened left) = ⊥
  HasLeftCollided (files.Closed it) = HaveCollided g start calls (it.log, it.db)
  HasLeftCollided (files.Unclosed store why) = HaveCollided g start calls (two_files store)

  -- where each read is tested, no wrong answer was taken as true, or a digest collided
  abbrev pub IsCleanOrCollided : FilesLeft D g → Type 0
  IsCleanOrCollided left = IsLeftShielded left → IsLeftClean left ⊎ HasLeftCollided left

  -- over the connection to files that held this it ended so: if no wrong answer was taken as true while they were
  -- opened, none was to the end, or a digest collided; or the files were refused, which is fault 31, with nothing
  -- written
  abbrev pub FindsDamage : FilesLeft D g → Image → OpenResult g
      → (Held (FileStore D g) → Held (FileStore D g) → Type 0) → Option (List ℕ) → Option (List ℕ) → Exit → Type 0
  FindsDamage left image (Ok was) Ends written after exit =
      (last : Held (FileStore D g)) × IsOpenedFrom image was last × Ends was last
      × (HasCleanDisk (file_state was) → (HasCleanDisk (file_state last) × IsLeftClean left) ⊎ HasLeftCollided left)
  FindsDamage left image (Err e) Ends written after exit =
      (exit ≡ how.Fault fault.Store) × (left ≡ files.Unopened e.1) × (after ≡ written)

  -- each command over files of which this is left ended so
  abbrev pub CommandFindsDamage : FilesLeft D g → Type 0
  CommandFindsDamage left =
      (image : Image) (opened : OpenResult g) (order : Command) (text written after : Option (List ℕ)) (exit : Exit)
      → RunsInFiles left image opened order text written after exit
      → FindsDamage left image opened (λ was last. RunEnds over_files order text was last written after exit) written
      after exit

  -- and each service
  abbrev pub ServiceFindsDamage : FilesLeft D g → Type 0
  ServiceFindsDamage left =
      (image : Image) (opened : OpenResult g) (port count : ℕ) (written after : Option (List ℕ)) (exit : Exit)
      → ServesInFiles left image opened port count written after exit
      → FindsDamage left image opened (λ was last. ServiceEnds over_files port count was last written after exit)
      written after exit

  -- and each gate
  abbrev pub GateFindsDamage : FilesLeft D g → Type 0
  GateFindsDamage left =
      (image : Image) (opened : OpenResult g) (first : Settings) (port count : ℕ) (written after : Option (List ℕ))
      (exit : Exit) → GatesInFiles left image opened first port count written after exit
      → FindsDamage left image opened (λ was last. GateEnds over_files first port count was last written after exit)
      written after exit
