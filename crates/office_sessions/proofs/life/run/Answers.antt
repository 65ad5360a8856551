use Rattle.std.proofs.Common.{◌≡◌, ◌∷◌, ◌++◌, List, [], refl, sym, subst, subst₂, take, rules}
use Rattle.sqlite_wal.specs.Files.{outcomes}
use Rattle.std.proofs.lemmas.List.{take_all}
use Rattle.office_life.specs.Standing.{FilesLead, outcomes_left}
use Rattle.office_sessions.specs.Life.{AreAllKnown, AreAllReported, stage_then}
use Rattle.office_sessions.specs.declared.reports.Errand.{Errand}
use Rattle.office_sessions.specs.declared.reports.LifeReport.{LifeReport}
use Rattle.office_sessions.proofs.Leading.{LeadOn, began_at, known_parts, lived_on, one_longer, reported_on}
use Rattle.office_sessions.proofs.life.run.Goals as goal

pub loop-errand-init : goal.loop-errand-init
loop-errand-init g c = record {
  log = c.requires.log;
  db = c.requires.db;
  led = λ never stage known.
      let old = outcomes g.D.Disk c.args.files.log c.args.files.db in
      subst (λ (xs : List LifeReport). FilesLead stage (stage_then stage xs) (LeadOn [] xs) old old) (sym c.new-reports.ensures.items) (began_at stage old);
  told = λ never. subst (λ (xs : List LifeReport). AreAllReported g.D.Disk c.args.files [] xs c.args.files) (sym c.new-reports.ensures.items) refl;
}

pub loop-errand-preserved : goal.loop-errand-preserved
loop-errand-preserved g c = record {
  log = c.crash-files.ensures.log;
  db = c.crash-files.ensures.db;
  led = λ never stage known.
      let it = c.run_errand-report.result.0 in
      let reports = c.loop-errand.reports.items in
      let errands = take c.loop-errand.errand-index c.args.errands.now in
      let asked = c.errand-item.result in
      let now : c.push.new.self.items ≡ reports ++ it ∷ [] = search rules in
      let more = one_longer c.args.errands.now c.loop-errand.errand-index asked c.loop-errand-test.true c.errand-item.is in
      let parts = known_parts reports it stage (subst (AreAllKnown stage) now known) in
      let old = outcomes g.D.Disk c.args.files.log c.args.files.db in
      let later = outcomes g.D.Disk c.crash-files.result.log c.crash-files.result.db in
      let mid = outcomes g.D.Disk c.loop-errand.files.log c.loop-errand.files.db in
      let new = outcomes_left {g = g.D.Disk} c.run_errand-report.result.1 in
      let on =
      lived_on stage errands reports asked it old mid new later (c.loop-errand.invariant.led never stage parts.0) (c.run_errand-report.ensures.led never (stage_then stage reports) parts.1) c.crash-files.ensures.fewer in
      subst₂ (λ (xs : List Errand) (ys : List LifeReport). FilesLead stage (stage_then stage ys) (LeadOn xs ys) old later) (sym more) (sym now) on;
  told = λ never.
      let it = c.run_errand-report.result.0 in
      let reports = c.loop-errand.reports.items in
      let errands = take c.loop-errand.errand-index c.args.errands.now in
      let asked = c.errand-item.result in
      let now : c.push.new.self.items ≡ reports ++ it ∷ [] = search rules in
      let more = one_longer c.args.errands.now c.loop-errand.errand-index asked c.loop-errand-test.true c.errand-item.is in
      subst₂ (λ (xs : List Errand) (ys : List LifeReport). AreAllReported g.D.Disk c.args.files xs ys c.crash-files.result) (sym more) (sym now)
      (reported_on errands reports asked it c.args.files c.loop-errand.files c.run_errand-report.result.1 c.crash-files.result (c.loop-errand.invariant.told never) (c.run_errand-report.ensures.told never) c.crash-files.ensures.fewer);
}

pub returns-clause-led : goal.returns-clause-led
returns-clause-led g c never stage known =
    let old = outcomes g.D.Disk c.args.files.log c.args.files.db in
    let now = outcomes g.D.Disk c.loop-errand.files.log c.loop-errand.files.db in
    let reports = c.loop-errand.reports.items in
    subst (λ (xs : List Errand). FilesLead stage (stage_then stage reports) (LeadOn xs reports) old now) (take_all c.loop-errand.errand-index c.args.errands.now c.loop-errand-test.false) (c.loop-errand.invariant.led never stage known)

pub returns-clause-told : goal.returns-clause-told
returns-clause-told g c never =
    subst (λ (xs : List Errand). AreAllReported g.D.Disk c.args.files xs c.loop-errand.reports.items c.loop-errand.files) (take_all c.loop-errand.errand-index c.args.errands.now c.loop-errand-test.false) (c.loop-errand.invariant.told never)
