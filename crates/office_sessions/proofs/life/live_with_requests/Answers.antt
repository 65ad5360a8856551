use Rattle.std.proofs.Common.{IfOk, Result, Ok, Err}
use Rattle.sqlite_wal.specs.Files.{outcomes}
use Rattle.office_life.specs.Standing.{FilesLead, Stage}
use Rattle.office_life.proofs.Leading.{lead_as}
use Rattle.office_sessions.specs.Life.{AreAllKnown, IsAfterStints, stage_then}
use Rattle.office_sessions.proofs.Leading.{LeadOn, after_stints}
use Rattle.office_sessions.proofs.life.live_with_requests.Goals as goal

if_ok : {T E : Type 0} (P Q : T → Type 0) (r : Result T E) → ((t : T) → P t → Q t) → IfOk r P → IfOk r Q
if_ok P Q (Ok t) more is = more t is
if_ok P Q (Err e) more is = tt

pub returns-clause-led : goal.returns-clause-led
returns-clause-led g c never =
    let errands = c.args.errands.now in
    let old = outcomes g.D.Disk c.args.files.log c.args.files.db in
    if_ok (λ r. (stage : Stage) → AreAllKnown stage r.0.items → FilesLead stage (stage_then stage r.0.items) (LeadOn errands r.0.items) old (outcomes g.D.Disk r.1.log r.1.db))
    (λ r. (stage : Stage) → AreAllKnown stage r.0.items → FilesLead stage (stage_then stage r.0.items) (IsAfterStints errands r.0.items) old (outcomes g.D.Disk r.1.log r.1.db)) c.run.result
    (λ r led stage known.
    lead_as c.law_of_soundness.ensures.empty stage (stage_then stage r.0.items) (LeadOn errands r.0.items) (IsAfterStints errands r.0.items) old (outcomes g.D.Disk r.1.log r.1.db)
    (λ s u sound on. after_stints c.law_of_fates.ensures errands r.0.items s u sound on) (led stage known)) (c.run.ensures.led never)
