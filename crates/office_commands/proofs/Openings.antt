-- What a connection is to files that were opened: at rest over the office that they held, or without a table.
use Rattle.std.proofs.Common.{◌≡◌, ◌∙◌, IsTrue}
use Rattle.std.proofs.Math.Logic.{∥∥₁_elim}
use Rattle.sqlite_disk.specs.declared.Disk.{Ghosts}
use Rattle.sqlite_store.specs.declared.store.FileStore.{FileStore}
use Rattle.sqlite_trees.specs.Props.{Trees-set}
use Rattle.sqlite_trees.specs.Tree.{Trees}
use Rattle.sqlite_wal.specs.Recovery.{Image}
use Rattle.sqlite.specs.Files.{IsOpened, file_state}
use Rattle.sqlite.specs.Held.{Held}
use Rattle.sqlite.specs.Start.{FindsIn}
use Rattle.sqlite.specs.State.{HasCleanDisk}
use Rattle.office_life.proofs.Rests.{blanks, rests, same_trees}
use Rattle.office_commands.specs.Files.{IsOpenedFrom}

-- what an opening promises of a connection, in the words of the program
pub opened_from :
    {D : Type 0} {g : Ghosts D} (image : Image) (was last : Held (FileStore D g)) → (HasCleanDisk (file_state last) → HasCleanDisk (file_state was))
    → (HasCleanDisk (file_state was) → IsOpened was) → (HasCleanDisk (file_state was) → FindsIn image (file_state was))
    → (IsTrue (file_state was).is_open → (db : Trees) → (file_state was).may_leave db → db ≡ (file_state was).committed.trees)
    → (IsTrue (file_state was).is_open → (file_state was).may_leave (file_state was).committed.trees)
    → IsOpenedFrom image was last
opened_from image was last clean opened found only stays = record {
  found = λ so. let it = opened (clean so) in let at = found (clean so) in rw (same_trees (file_state was) it.0 it.1 (only it.0.is_open) (stays it.0.is_open)) at.reads;
  holds = λ so trees contained. let it = opened (clean so) in same_trees (file_state was) it.0 it.1 (only it.0.is_open) (stays it.0.is_open) ∙ (found (clean so)).holds trees contained;
  rest = λ so ed trees contained.
      let it = opened (clean so) in
      let at = found (clean so) in
      rests (file_state was) it.0 it.1 (only it.0.is_open) (stays it.0.is_open) ed trees (∥∥₁_elim contained.contained (Trees-set _ _) (at.holds trees)) contained.office;
  blank = λ so. let it = opened (clean so) in blanks (file_state was) it.0 it.1 (only it.0.is_open) (stays it.0.is_open);
}
