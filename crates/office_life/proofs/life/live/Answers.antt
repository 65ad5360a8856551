use Rattle.std.proofs.Common.{IfOk, Result, Ok, Err}
use Rattle.sqlite_wal.specs.Files.{outcomes}
use Rattle.office_life.specs.Life.{AreKnownFrom, IsAfterLife, LeadsOn, stage_at_end}
use Rattle.office_life.specs.Standing.{FilesLead, Stage}
use Rattle.office_life.proofs.Ends.{after_life}
use Rattle.office_life.proofs.Leading.{lead_as}
use Rattle.office_life.proofs.life.live.Goals as goal

if_ok : {T E : Type 0} (P Q : T → Type 0) (r : Result T E) → ((t : T) → P t → Q t) → IfOk r P → IfOk r Q
if_ok P Q (Ok t) more is = more t is
if_ok P Q (Err e) more is = tt

pub returns-clause-led : goal.returns-clause-led
returns-clause-led g c never =
    let tasks = c.args.tasks.now in
    let old = outcomes g.D.Disk c.args.files.log c.args.files.db in
    let resuming = c.law_of_resumption.ensures in
    if_ok (λ r. (stage : Stage) → AreKnownFrom stage r.0.items → FilesLead stage (stage_at_end stage r.0.items) (LeadsOn tasks r.0.items) old (outcomes g.D.Disk r.1.log r.1.db))
    (λ r. (stage : Stage) → AreKnownFrom stage r.0.items → FilesLead stage (stage_at_end stage r.0.items) (IsAfterLife tasks r.0.items) old (outcomes g.D.Disk r.1.log r.1.db)) c.run.result
    (λ r led stage known.
    lead_as c.law_of_soundness.ensures.empty stage (stage_at_end stage r.0.items) (LeadsOn tasks r.0.items) (IsAfterLife tasks r.0.items) old (outcomes g.D.Disk r.1.log r.1.db)
    (λ s u sound on. after_life s c.law_of_fates.ensures resuming.on_the_way resuming.closed sound tasks r.0.items u on) (led stage known)) (c.run.ensures.led never)
