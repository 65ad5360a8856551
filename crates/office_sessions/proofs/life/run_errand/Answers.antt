use Rattle.std.proofs.Common.{sym, subst}
use Rattle.sqlite_wal.specs.Files.{outcomes}
use Rattle.office_life.specs.Life.{LeadsBy}
use Rattle.office_life.specs.Standing.{FilesLead, outcomes_left, stage_after}
use Rattle.office_sessions.specs.Life.{DidErrand, IsReported}
use Rattle.office_sessions.specs.declared.reports.Errand.{Errand}
use Rattle.office_sessions.specs.declared.reports.LifeReport.TheVariants as report
use Rattle.office_sessions.proofs.life.run_errand.Goals as goal

pub returns-in-Task-clause-led : goal.returns-in-Task-clause-led
returns-in-Task-clause-led g c never stage known =
    let it = c.stint-report.result.0 in
    let rest = c.stint-report.result.1 in
    subst (λ (e : Errand). FilesLead stage (stage_after stage it.remains) (LeadsBy (DidErrand e (report.Task it))) (outcomes g.D.Disk c.args.files.log c.args.files.db) (outcomes_left {g = g.D.Disk} rest)) (sym c.in-Task.is)
    (c.stint-report.ensures.led never stage known)

pub returns-in-Task-clause-told : goal.returns-in-Task-clause-told
returns-in-Task-clause-told g c never =
    subst (λ (e : Errand). IsReported e (report.Task c.stint-report.result.0) c.args.files c.stint-report.result.1) (sym c.in-Task.is) (c.stint-report.ensures.told never)

pub returns-in-Requests-clause-told : goal.returns-in-Requests-clause-told
returns-in-Requests-clause-told g c never =
    subst (λ (e : Errand). IsReported e (report.Requests c.serve_requests-report.result.0) c.args.files c.serve_requests-report.result.1) (sym c.in-Requests.is) (c.serve_requests-report.ensures.told never)

pub returns-in-Requests-clause-led : goal.returns-in-Requests-clause-led
returns-in-Requests-clause-led g c never stage known =
    let it = c.serve_requests-report.result.0 in
    let rest = c.serve_requests-report.result.1 in
    subst (λ (e : Errand). FilesLead stage (stage_after stage it.remains) (LeadsBy (DidErrand e (report.Requests it))) (outcomes g.D.Disk c.args.files.log c.args.files.db) (outcomes_left {g = g.D.Disk} rest)) (sym c.in-Requests.is)
    (c.serve_requests-report.ensures.led never stage known)
