-- A run over the connection that the database returned.
use Rattle.std.proofs.Common.{◌≡◌, Bool, IsTrue, Ok}
use Rattle.sqlite_disk.specs.declared.Disk.{Ghosts}
use Rattle.sqlite_store.specs.declared.store.FileStore.{FileStore}
use Rattle.sqlite_trees.specs.Tree.{Trees}
use Rattle.sqlite_wal.specs.Recovery.{Image}
use Rattle.sqlite.specs.Files.{file_state}
use Rattle.sqlite.specs.Held.{Held}
use Rattle.sqlite.specs.State.{HasCleanDisk}
use Rattle.office_commands.specs.Files.{EndsOver, IsLeftShielded}
use Rattle.office_commands.specs.OpenResult.{IsOpenResult}
use Rattle.office_commands.specs.declared.office_files.FilesLeft.{FilesLeft}
use Rattle.office_commands.proofs.Openings.{opened_from}

pub ends_over :
    {D : Type 0} {g : Ghosts D} (IsFresh : Bool → D → Type 0) (image : Image) (left : FilesLeft D g) (Ends : Held (FileStore D g) → Held (FileStore D g) → Type 0) (was last : Held (FileStore D g)) → IsOpenResult {g = g} IsFresh image (Ok was)
    → (IsTrue (file_state was).is_open → (db : Trees) → (file_state was).may_leave db → db ≡ (file_state was).committed.trees)
    → (IsTrue (file_state was).is_open → (file_state was).may_leave (file_state was).committed.trees)
    → (HasCleanDisk (file_state last) → HasCleanDisk (file_state was)) → ((file_state was).IsShielded → (file_state last).IsShielded) → Ends was last
    → (IsTrue (file_state last).is_open → (file_state last).may_leave (file_state last).committed.trees) → ((file_state last).IsShielded → IsLeftShielded left) → EndsOver left image Ends was last
ends_over IsFresh image left Ends was last it only stays clean shield ended later closed = record {
  opened = opened_from image was last clean it.opened it.found only stays;
  ends = ended;
  stays = later;
  shield = λ honest. closed (shield (it.guarded honest));
}
