-- What stops the opening of files that stand for an office. Source: own.
use Rattle.std.specs.Prelude.{◌≡◌}
use Rattle.sqlite_disk.specs.declared.Disk.{Ghosts}
use Rattle.sqlite_disk.specs.declared.Files.{Files}
use Rattle.sqlite_wal.specs.Recovery.{Image}
use Rattle.sqlite.specs.Files.{IsCleanLeft, image_of}
use Rattle.sqlite.specs.declared.error.Error.{Error}
use Rattle.sqlite.specs.declared.file.Leftover.{Leftover}
use Rattle.office_rules.specs.State.{State}
use Rattle.office_life.specs.Opening.{StopsOpening}
use Rattle.office_life.specs.Standing.{Stage, StandsAt}

-- the files were not opened, by this error, and this is left of them: if they stand for an office, memory ran out, a call
-- of the disk failed, or a limit of the format was met
abbrev pub IsHinderedAlone : {D : Type 0} {g : Ghosts D} → Image → Error → Leftover D g → Type 0
IsHinderedAlone {D} {g} image e rest =
    IsCleanLeft rest → (stage : Stage) (s : State) → StandsAt stage image s
    → (files : Files D) × (image_of g files ≡ image) × StopsOpening files rest e
