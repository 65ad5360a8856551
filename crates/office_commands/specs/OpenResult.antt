-- What the database returns from the opening of two files. Source: own; `open_from` of the kit's `sqlite` ensures each
-- field.
use Rattle.std.specs.Prelude.{Bool, true, false, IfErr, IfOk, IfSome, Option, Result}
use Rattle.sqlite_disk.specs.declared.Disk.{Ghosts}
use Rattle.sqlite_disk.specs.declared.Files.{Files}
use Rattle.sqlite_store.specs.declared.store.FileStore.{FileStore}
use Rattle.sqlite_wal.specs.Recovery.{Image}
use Rattle.sqlite.specs.Files.{FailsToOpenFiles, IsCleanLeft, IsOpened, LeavesFiles, file_state}
use Rattle.sqlite.specs.Held.{Held, IsNew}
use Rattle.sqlite.specs.Start.{FindsIn}
use Rattle.sqlite.specs.State.{HasCleanDisk}
use Rattle.sqlite.specs.declared.error.Error.{Error}
use Rattle.sqlite.specs.declared.file.Leftover.{Leftover}

-- a connection to the files; or an error, with what is left of them, unless the system refused them
abbrev pub OpenResult : {D : Type 0} → Ghosts D → Type 0
OpenResult {D} g = Result (Held (FileStore D g)) (Error × Option (Leftover D g))

-- the database returned this for files that held that; IsFresh says of a file that nothing was done with it yet, and
-- whether it is the log
pub record IsOpenResult {D : Type 0} {g : Ghosts D} (IsFresh : Bool → D → Type 0) (image : Image)
    (result : OpenResult g) : Type 0 where
  -- a connection that took no wrong answer of the disk as true is open, over what the files held
  pub opened : IfOk result (λ c. HasCleanDisk (file_state c) → IsOpened c)
  pub found : IfOk result (λ c. HasCleanDisk (file_state c) → FindsIn image (file_state c))
  pub fresh : IfOk result IsNew
  -- each later read is tested
  pub guarded : IfOk result (λ c. HasCleanDisk (file_state c) → (file_state c).IsShielded)
  -- else there is a cause, and what is left of the files keeps what they held
  pub cause : IfErr result (λ e. IfSome e.1 (λ left. (pair : Files D) × IsFresh true pair.log × IsFresh false pair.db
      × (IsCleanLeft left → FailsToOpenFiles pair left e.0 × LeavesFiles pair left)))
