use Rattle.std.proofs.Common.{ap₂, true, false}
use Rattle.sqlite_wal.specs.Files.{image_at}
use Rattle.office_commands.proofs.LeftTables.{fresh_left, image, seen, spared_left}
use Rattle.office_commands.proofs.office_files.refuse.Goals as goal

pub returns-clause-kept : goal.returns-clause-kept
returns-clause-kept g c =
    spared_left (image_at g.S.Start) _ _ _
    (λ files log db. (
      ap₂ image (ap₂ (seen g.S.Start.log g.S.Start.db) log.0 log.1) (ap₂ (seen g.S.Start.log g.S.Start.db) db.0 db.1),
      λ later may.
          ap₂ image (fresh_left g.S.Start.log g.S.Start.db g.S.Start.is_mixing true _ _ _ _ log.0 log.1 may.0)
          (fresh_left g.S.Start.log g.S.Start.db g.S.Start.is_mixing false _ _ _ _ db.0 db.1 may.1),
    ))
    _ c.requires.cause
