use Rattle.std.proofs.Common.{◌≡◌, ◌∷◌, ◌++◌, List, [], refl, sym, subst, subst₂, take, rules}
use Rattle.sqlite_wal.specs.Files.{outcomes}
use Rattle.std.proofs.lemmas.List.{take_all}
use Rattle.office_life.specs.Life.{AreKnownFrom, LeadsOn, stage_at_end}
use Rattle.office_life.specs.Standing.{FilesLead, outcomes_left}
use Rattle.office_life.specs.declared.reports.Report.{Report}
use Rattle.office_life.specs.declared.reports.Task.{Task}
use Rattle.office_life.proofs.Leading.{began_at, known_parts, lived_on, one_longer}
use Rattle.office_life.specs.Told.{AreTold}
use Rattle.office_life.proofs.Tellings.{told_on}
use Rattle.office_life.proofs.life.run.Goals as goal

pub loop-task-init : goal.loop-task-init
loop-task-init g c = record {
  log = c.requires.log;
  db = c.requires.db;
  led = λ never stage known.
      let old = outcomes g.D.Disk c.args.files.log c.args.files.db in
      subst (λ (xs : List Report). FilesLead stage (stage_at_end stage xs) (LeadsOn [] xs) old old) (sym c.new-reports.ensures.items) (began_at stage old);
  told = λ never. subst (λ (xs : List Report). AreTold g.D.Disk c.args.files [] xs c.args.files) (sym c.new-reports.ensures.items) refl;
}

pub loop-task-preserved : goal.loop-task-preserved
loop-task-preserved g c = record {
  log = c.crash-files.ensures.log;
  db = c.crash-files.ensures.db;
  led = λ never stage known.
      let it = c.stint-report.result.0 in
      let reports = c.loop-task.reports.items in
      let tasks = take c.loop-task.task-index c.args.tasks.now in
      let asked = c.task-item.result in
      let now : c.push.new.self.items ≡ reports ++ it ∷ [] = search rules in
      let more = one_longer c.args.tasks.now c.loop-task.task-index asked c.loop-task-test.true c.task-item.is in
      let parts = known_parts reports it stage (subst (AreKnownFrom stage) now known) in
      let old = outcomes g.D.Disk c.args.files.log c.args.files.db in
      let later = outcomes g.D.Disk c.crash-files.result.log c.crash-files.result.db in
      let mid = outcomes g.D.Disk c.loop-task.files.log c.loop-task.files.db in
      let new = outcomes_left {g = g.D.Disk} c.stint-report.result.1 in
      let on =
      lived_on stage tasks reports asked it old mid new later (c.loop-task.invariant.led never stage parts.0) (c.stint-report.ensures.led never (stage_at_end stage reports) parts.1) c.crash-files.ensures.fewer in
      subst₂ (λ (xs : List Task) (ys : List Report). FilesLead stage (stage_at_end stage ys) (LeadsOn xs ys) old later) (sym more) (sym now) on;
  told = λ never.
      let it = c.stint-report.result.0 in
      let reports = c.loop-task.reports.items in
      let tasks = take c.loop-task.task-index c.args.tasks.now in
      let asked = c.task-item.result in
      let now : c.push.new.self.items ≡ reports ++ it ∷ [] = search rules in
      let more = one_longer c.args.tasks.now c.loop-task.task-index asked c.loop-task-test.true c.task-item.is in
      subst₂ (λ (xs : List Task) (ys : List Report). AreTold g.D.Disk c.args.files xs ys c.crash-files.result) (sym more) (sym now)
      (told_on tasks reports asked it c.args.files c.loop-task.files c.stint-report.result.1 c.crash-files.result (c.loop-task.invariant.told never) (c.stint-report.ensures.told never) c.crash-files.ensures.fewer);
}

pub returns-clause-led : goal.returns-clause-led
returns-clause-led g c never stage known =
    let old = outcomes g.D.Disk c.args.files.log c.args.files.db in
    let now = outcomes g.D.Disk c.loop-task.files.log c.loop-task.files.db in
    let reports = c.loop-task.reports.items in
    subst (λ (xs : List Task). FilesLead stage (stage_at_end stage reports) (LeadsOn xs reports) old now) (take_all c.loop-task.task-index c.args.tasks.now c.loop-task-test.false) (c.loop-task.invariant.led never stage known)

pub returns-clause-told : goal.returns-clause-told
returns-clause-told g c never =
    let reports = c.loop-task.reports.items in
    subst (λ (xs : List Task). AreTold g.D.Disk c.args.files xs reports c.loop-task.files) (take_all c.loop-task.task-index c.args.tasks.now c.loop-task-test.false) (c.loop-task.invariant.told never)
