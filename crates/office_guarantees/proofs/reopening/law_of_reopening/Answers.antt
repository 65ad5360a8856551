use Rattle.std.proofs.Common.{ap₂}
use Rattle.sqlite_wal.specs.Files.{image_at}
use Rattle.office_commands.proofs.LeftTables.{image, seen}
use Rattle.office_guarantees.proofs.Reopenings.{hindered_alone}
use Rattle.office_guarantees.proofs.reopening.law_of_reopening.Goals as goal

pub returns : goal.returns
returns g c =
    hindered_alone c.law_of_openings.ensures.files (image_at g.S.Start) _ _ _
    (λ files log db. ap₂ image (ap₂ (seen g.S.Start.log g.S.Start.db) log.0 log.1) (ap₂ (seen g.S.Start.log g.S.Start.db) db.0 db.1))
    _ c.requires.cause
