-- What is done with the office in a file, by what its two files held as they were opened. Source: own.
use Rattle.std.specs.Prelude.{◌≡◌, ℕ, IfSome, IsTrue, List, Option, Ok, Err}
use Rattle.sqlite_disk.specs.declared.Disk.{Ghosts}
use Rattle.sqlite_disk.specs.declared.Files.{Files}
use Rattle.sqlite_store.specs.FileStore.{files as two_files, is_shielded, view}
use Rattle.sqlite_store.specs.declared.store.FileStore.{FileStore}
use Rattle.sqlite_trees.specs.Tree.{Trees}
use Rattle.sqlite_trees.specs.View.{IsClean}
use Rattle.sqlite_trees.specs.declared.error.StoreError.{StoreError}
use Rattle.sqlite_wal.specs.Files.{outcomes}
use Rattle.sqlite_wal.specs.Reads.{AreClean}
use Rattle.sqlite_wal.specs.Recovery.{Image}
use Rattle.sqlite.specs.Closing.{IsCopied}
use Rattle.sqlite.specs.Files.{AreFoundIn, ExcusesClose, HoldsDatabase, IsClosed, IsEmpty, file_state, image_of, over_files}
use Rattle.sqlite.specs.Held.{Held, state}
use Rattle.sqlite.specs.State.{State as FileState, HasCleanDisk}
use Rattle.sqlite.specs.declared.file.Leftover.{Leftover}
use Rattle.office_access.specs.Settings.{Settings}
use Rattle.office_sql.specs.declared.schema_versions.SchemaVersion.{SchemaVersion}
use Rattle.office_sql.specs.Office.{IsAtRestOver, IsBlank, IsOfficeIn}
use Rattle.office_store.specs.declared.fault.Fault.TheVariants as fault
use Rattle.office_life.specs.Tables.{ContainTables}
use Rattle.office_command_line.specs.Orders.{Command}
use Rattle.office_commands.specs.Applying.{TextEnds}
use Rattle.office_commands.specs.OpenResult.{OpenResult}
use Rattle.office_commands.specs.Running.{RunEnds}
use Rattle.office_commands.specs.Serving.{GateEnds, ServiceEnds}
use Rattle.office_commands.specs.Tables.{SparesTables}
use Rattle.office_commands.specs.declared.exit.Exit.{Exit}
use Rattle.office_commands.specs.declared.exit.Exit.TheVariants as how
use Rattle.office_commands.specs.declared.office_files.FilesLeft.{FilesLeft}
use Rattle.office_commands.specs.declared.office_files.FilesLeft.TheVariants as files

-- the two files held this database, which has the office's tables of that version, beside whatever else
pub record ContainedOffice (ed : SchemaVersion) (image : Image) (trees : Trees) : Type 0 where
  pub contained : ∥ HoldsDatabase image trees ∥₁
  pub office : IsOfficeIn ed trees

-- whatever tables a crash leaves, they are an office's, of one version or the other
abbrev pub LeavesAnOffice : FileState → Type 0
LeavesAnOffice s = (db : Trees) → s.may_leave db → (ed : SchemaVersion) × IsOfficeIn ed db

-- files that held this were opened as that connection, as far as a later one is clean: it is at rest over the office
-- that they held, or has room for one where it found nothing
pub record IsOpenedFrom {D : Type 0} {g : Ghosts D} (image : Image) (was last : Held (FileStore D g)) : Type 0 where
  pub found : HasCleanDisk (file_state last) → AreFoundIn image (file_state was).now.trees
  pub holds : HasCleanDisk (file_state last) → (trees : Trees) → HoldsDatabase image trees
      → (file_state was).now.trees ≡ trees
  pub rest : HasCleanDisk (file_state last) → (ed : SchemaVersion) (trees : Trees) → ContainedOffice ed image trees
      → IsAtRestOver ed (file_state was) × ((file_state was).now.trees ≡ trees)
  pub blank : HasCleanDisk (file_state last) → IsEmpty (file_state was).now.trees → IsBlank (file_state was)

-- no wrong answer of the disk was taken as true so far but by a collision of digests: the store of what is left tests
-- each read
abbrev pub IsLeftShielded : {D : Type 0} {g : Ghosts D} → FilesLeft D g → Type 0
IsLeftShielded (files.Unopened left) = Unit {0}
IsLeftShielded {D} {g} (files.Closed it) =
    (store : FileStore D g) × (two_files store ≡ (it.log, it.db)) × is_shielded store
IsLeftShielded (files.Unclosed store why) = is_shielded store

-- files that held this were opened as a connection, and so it ended over that connection, which is this one then; where
-- it is open, a crash may leave its last commit; and where no wrong answer was taken as true as they were opened, each
-- later read was tested
pub record EndsOver {D : Type 0} {g : Ghosts D} (left : FilesLeft D g) (image : Image)
    (Ends : Held (FileStore D g) → Held (FileStore D g) → Type 0) (was last : Held (FileStore D g)) : Type 0 where
  pub opened : IsOpenedFrom image was last
  pub ends : Ends was last
  pub stays : IsTrue (file_state last).is_open → (file_state last).may_leave (file_state last).committed.trees
  pub shield : HasCleanDisk (file_state was) → IsLeftShielded left

-- what a closing copies: the last commit, into the database file alone; and the two files hold it, as they read now and
-- after any crash
pub record IsClosedCopy {D : Type 0} {g : Ghosts D} (last : Held (FileStore D g)) (it : Files D) : Type 0 where
  pub copied : IsCopied last it
  pub now : ∥ ContainTables (image_of g it) (file_state last).committed.trees ∥₁
  pub left : (image : Image) → outcomes g it.log it.db image → ∥ ContainTables image (file_state last).committed.trees ∥₁

-- what a closing that failed leaves: no more than what a crash left before; and the store is numbered, where it is open
pub record IsUnclosed {D : Type 0} {g : Ghosts D} (last : Held (FileStore D g)) (store : FileStore D g)
    (why : StoreError) : Type 0 where
  pub closed : IsClosed last store
  pub numbered : IsClean (view store) → IsTrue (view store).is_open → IsTrue (view store).is_numbered
  -- a call of the disk failed or a limit of the format was met, unless the connection was shut before; or memory was
  -- refused, and the reason says so
  pub failed : IsClean (view store) → ExcusesClose last store why

-- what a connection leaves of its files as it is closed
abbrev pub IsLeftOf : {D : Type 0} {g : Ghosts D} → Held (FileStore D g) → FilesLeft D g → Type 0
IsLeftOf last (files.Unopened left) = ⊥
IsLeftOf {g = g} last (files.Closed it) = AreClean g it.log it.db → IsClosedCopy last it
IsLeftOf last (files.Unclosed store why) = IsUnclosed last store why

-- files that held this were refused, which is fault 31, with nothing written: what is left of them is what the database
-- gave back, and keeps their tables; if the system refused them, there is none
pub record IsRefused {D : Type 0} {g : Ghosts D} (image : Image) (back : Option (Leftover D g)) (left : FilesLeft D g)
    (written after : Option (List ℕ)) (exit : Exit) : Type 0 where
  pub fault : exit ≡ how.Fault fault.Store
  pub given : left ≡ files.Unopened back
  pub kept : IfSome back (SparesTables image)
  pub silent : after ≡ written

-- what becomes of files that held this, by what the database returned as it opened them: so it ended over that
-- connection, which was closed; or they were refused
abbrev pub EndsInFiles : {D : Type 0} {g : Ghosts D} → FilesLeft D g → Image → OpenResult g
    → (Held (FileStore D g) → Held (FileStore D g) → Type 0) → Option (List ℕ) → Option (List ℕ) → Exit → Type 0
EndsInFiles {D} {g} left image (Ok was) Ends written after exit =
    (last : Held (FileStore D g)) × EndsOver left image Ends was last × IsLeftOf last left
EndsInFiles left image (Err e) Ends written after exit = IsRefused image e.1 left written after exit

-- an order on the office in files that held this, where the reader reports the text that it reads
abbrev pub RunsInFiles : {D : Type 0} {g : Ghosts D} → FilesLeft D g → Image → OpenResult g → Command
    → Option (List ℕ) → Option (List ℕ) → Option (List ℕ) → Exit → Type 0
RunsInFiles left image opened order text written after exit =
    EndsInFiles left image opened (λ was last. RunEnds over_files order text was last written after exit) written after
    exit

-- the acts of a text that is in memory, on the office in files that held this
abbrev pub AppliesInFiles : {D : Type 0} {g : Ghosts D} → FilesLeft D g → Image → OpenResult g → List ℕ
    → Option (List ℕ) → Option (List ℕ) → Exit → Type 0
AppliesInFiles left image opened text written after exit =
    EndsInFiles left image opened
    (λ was last. TextEnds text (state over_files was) (state over_files last) written after exit) written after exit

-- a service of the office in files that held this, at a port and for so many connections
abbrev pub ServesInFiles : {D : Type 0} {g : Ghosts D} → FilesLeft D g → Image → OpenResult g → ℕ → ℕ
    → Option (List ℕ) → Option (List ℕ) → Exit → Type 0
ServesInFiles left image opened port count written after exit =
    EndsInFiles left image opened (λ was last. ServiceEnds over_files port count was last written after exit) written
    after exit

-- the same for the names that a proxy states, with these settings at first
abbrev pub GatesInFiles : {D : Type 0} {g : Ghosts D} → FilesLeft D g → Image → OpenResult g → Settings → ℕ → ℕ
    → Option (List ℕ) → Option (List ℕ) → Exit → Type 0
GatesInFiles left image opened first port count written after exit =
    EndsInFiles left image opened (λ was last. GateEnds over_files first port count was last written after exit) written
    after exit
