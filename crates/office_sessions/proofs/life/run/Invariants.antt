use Rattle.std.specs.Prelude.{IsTrue, take}
use Rattle.sqlite_wal.specs.Files.{outcomes}
use Rattle.office_life.specs.Standing.{FilesLead, NeverLies, Stage}
use Rattle.office_sessions.specs.Life.{AreAllKnown, AreAllReported, stage_then}
use Rattle.office_sessions.proofs.Leading.{LeadOn}
use Rattle.office_sessions.proofs.life.run.Given as goal

abbrev pub invariant-loop-errand : goal.invariant-loop-errand
invariant-loop-errand g l = record {
  log : IsTrue (g.D.Disk.is_usable l.files.log);
  db : IsTrue (g.D.Disk.is_usable l.files.db);
  led : NeverLies g.D.Disk → (stage : Stage) → AreAllKnown stage l.reports.items
      → FilesLead stage (stage_then stage l.reports.items) (LeadOn (take l.errand-index l.errands) l.reports.items) (outcomes g.D.Disk l.fn.files.log l.fn.files.db) (outcomes g.D.Disk l.files.log l.files.db);
  told : NeverLies g.D.Disk → AreAllReported g.D.Disk l.fn.files (take l.errand-index l.errands) l.reports.items l.files;
}
