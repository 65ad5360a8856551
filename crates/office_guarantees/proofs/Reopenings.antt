-- What the database returns from the opening of files that stand for an office.
use Rattle.std.proofs.Common.{◌≡◌, IfSome, Option, None, Some, sym, subst}
use Rattle.sqlite_disk.specs.declared.Disk.{Ghosts}
use Rattle.sqlite_disk.specs.declared.Files.{Files}
use Rattle.sqlite_wal.specs.Recovery.{Image}
use Rattle.sqlite.specs.Files.{FailsToOpenFiles, IsCleanLeft, LeavesFiles, image_of}
use Rattle.sqlite.specs.declared.error.Error.{Error}
use Rattle.sqlite.specs.declared.file.Leftover.{Leftover}
use Rattle.office_life.specs.Opening.{AreNotRefused}
use Rattle.office_life.specs.Standing.{StandsAt}
use Rattle.office_guarantees.specs.Reopening.{IsHinderedAlone}

module _ {D : Type 0} {g : Ghosts D} where
  pub hindered_alone : AreNotRefused g → (image : Image) (e : Error) (A B : Files D → Type 0) → ((files : Files D) → A files → B files → image_of g files ≡ image)
      → (left : Option (Leftover D g)) → IfSome left (λ rest. (files : Files D) × A files × B files × (IsCleanLeft rest → FailsToOpenFiles files rest e × LeavesFiles files rest))
      → IfSome left (IsHinderedAlone image e)
  hindered_alone not image e A B fresh None cause = tt
  hindered_alone not image e A B fresh (Some rest) cause =
      let same = fresh cause.0 cause.1 cause.2 in
      λ clean stage s stands. (cause.0, same, not cause.0 rest e stage s (subst (λ (is : Image). StandsAt stage is s) (sym same) stands) (cause.3 clean).0)
