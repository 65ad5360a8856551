-- What an opening that failed keeps of the tables that two files hold. Source: own.
use Rattle.std.specs.Prelude.{◌≡◌, ◌⊎◌, IsTrue}
use Rattle.sqlite_disk.specs.declared.Disk.{Ghosts}
use Rattle.sqlite_disk.specs.declared.Files.{Files}
use Rattle.sqlite_store.specs.FileStore.{recovers, view}
use Rattle.sqlite_store.specs.Unopened.{state_of}
use Rattle.sqlite_trees.specs.Tree.{Trees}
use Rattle.sqlite_wal.specs.Files.{outcomes}
use Rattle.sqlite_wal.specs.Reads.{AreClean}
use Rattle.sqlite_wal.specs.Recovery.{Image}
use Rattle.sqlite.specs.Files.{HoldsDatabase, IsEmpty, IsNothing}
use Rattle.sqlite.specs.declared.file.Leftover.{Leftover}
use Rattle.sqlite.specs.declared.file.Leftover.TheVariants as left
use Rattle.office_life.specs.Tables.{ContainTables}

-- there is no database yet, or one without a table
abbrev pub IsNoneYet : Image → Type 0
IsNoneYet image = IsNothing image ⊎ ∥ ((tables : Trees) × HoldsDatabase image tables × IsEmpty tables) ∥₁

-- the files hold the tables that they held; if they held no database, they hold none yet
pub record KeepsTables (before after : Image) : Type 0 where
  pub contained : (tables : Trees) → ContainTables before tables → ContainTables after tables
  pub none : IsNothing before → IsNoneYet after

-- these are the tables that the files hold; if they hold no database, these are empty
pub record AreTablesIn (image : Image) (found : Trees) : Type 0 where
  pub contained : (tables : Trees) → ContainTables image tables → found ≡ tables
  pub none : IsNothing image → IsEmpty found

-- what is left of files that held this and were not opened: whatever a crash leaves of them is what they held, or holds
-- what they held; a store of which the tables were not read stands for these
abbrev pub SparesTables : {D : Type 0} {g : Ghosts D} → Image → Leftover D g → Type 0
SparesTables {g = g} image (left.Files it) =
    AreClean g it.log it.db → (later : Image) → outcomes g it.log it.db later → later ≡ image
SparesTables image (left.Unopened it) =
    IsTrue (state_of it).is_clean → (later : Image) → (state_of it).may_leave later → KeepsTables image later
SparesTables image (left.Store it) =
    IsTrue (view it).is_clean → (found : Trees) → recovers it found → AreTablesIn image found
