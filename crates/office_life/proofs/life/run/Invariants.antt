use Rattle.std.specs.Prelude.{IsTrue, take}
use Rattle.sqlite_wal.specs.Files.{outcomes}
use Rattle.office_life.specs.Life.{AreKnownFrom, LeadsOn, stage_at_end}
use Rattle.office_life.specs.Standing.{FilesLead, NeverLies, Stage}
use Rattle.office_life.specs.Told.{AreTold}
use Rattle.office_life.proofs.life.run.Given as goal

abbrev pub invariant-loop-task : goal.invariant-loop-task
invariant-loop-task g l = record {
  log : IsTrue (g.D.Disk.is_usable l.files.log);
  db : IsTrue (g.D.Disk.is_usable l.files.db);
  led : NeverLies g.D.Disk → (stage : Stage) → AreKnownFrom stage l.reports.items
      → FilesLead stage (stage_at_end stage l.reports.items) (LeadsOn (take l.task-index l.tasks) l.reports.items) (outcomes g.D.Disk l.fn.files.log l.fn.files.db) (outcomes g.D.Disk l.files.log l.files.db);
  told : NeverLies g.D.Disk → AreTold g.D.Disk l.fn.files (take l.task-index l.tasks) l.reports.items l.files;
}
