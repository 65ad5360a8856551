-- From one run of the program over an office's files to the next.
use Rattle.std.proofs.Common.{IsTrue}
use Rattle.std.proofs.Math.Logic.{∥∥₁_map}
use Rattle.sqlite_disk.specs.declared.Disk.{Ghosts}
use Rattle.sqlite_disk.specs.declared.Files.{Files}
use Rattle.sqlite_store.specs.FileStore.{recovers, state, view}
use Rattle.sqlite_store.specs.declared.store.FileStore.{FileStore}
use Rattle.sqlite_trees.specs.Tree.{Trees}
use Rattle.sqlite_wal.specs.Files.{outcomes}
use Rattle.sqlite_wal.specs.Reads.{AreClean}
use Rattle.sqlite_wal.specs.Recovery.{Image}
use Rattle.sqlite.specs.Files.{HoldsDatabase, file_state, image_of}
use Rattle.sqlite.specs.Held.{AreDatabases, Held}
use Rattle.sqlite.proofs.Theorems.{opens_again}
use Rattle.office_sql.specs.declared.schema_versions.SchemaVersion.{SchemaVersion}
use Rattle.office_sql.specs.Office.{IsOfficeIn}
use Rattle.office_commands.specs.Files.{ContainedOffice, IsClosedCopy, LeavesAnOffice}

module _ {D : Type 0} {g : Ghosts D} (last : Held (FileStore D g)) where
  module _ (it : Files D) (ed : SchemaVersion) (copied : AreClean g it.log it.db → IsClosedCopy last it) (clean : AreClean g it.log it.db) (office : IsOfficeIn ed (file_state last).committed.trees) where
    pub held_closed : ContainedOffice ed (image_of g it) (file_state last).committed.trees
    held_closed = record { contained = (copied clean).copied.seen.both; office = office }

    pub held_later : (image : Image) → outcomes g it.log it.db image → ContainedOffice ed image (file_state last).committed.trees
    held_later image may = record { contained = ((copied clean).copied.left image may).both; office = office }

  -- each database that a crash may leave is sound
  are_databases : LeavesAnOffice (file_state last) → AreDatabases (recovers last.store)
  are_databases leaves db may = let is = leaves db may in (is.1.0, is.1.1.has.database)

  pub held_crashed : IsTrue (view last.store).is_numbered → LeavesAnOffice (file_state last) → (left : Image) → (state last.store).may_leave left
      → ∥ ((trees : Trees) × (ed : SchemaVersion) × (file_state last).may_leave trees × ContainedOffice ed left trees) ∥₁
  held_crashed numbered leaves left may =
      ∥∥₁_map (opens_again last.store numbered (are_databases leaves) left may) (λ (db : (x : Trees) × recovers last.store x × HoldsDatabase left x).
      let is = leaves db.0 db.1 in
      (db.0, is.0, db.1, record { contained = ∣ db.2 ∣₁; office = is.1 }))
