use Rattle.std.proofs.Common.{◌≡◌, inl, inr, map, refl, sym, subst}
use Rattle.sqlite_store.specs.FileStore.{recovers}
use Rattle.sqlite_wal.specs.Files.{outcomes}
use Rattle.office_rules.specs.Forms.{AreWellFormed}
use Rattle.office_life.specs.Life.{Leads, LeadsBy}
use Rattle.office_life.specs.Standing.{FilesLead, IsKnownAt, outcomes_left, remains_of, stage_after}
use Rattle.office_life.specs.declared.reports.Remains.{Remains}
use Rattle.office_life.specs.declared.reports.StintEnd.TheVariants as stint_end
use Rattle.office_life.specs.declared.reports.Task.TheVariants as task
use Rattle.office_life.proofs.Leading.{lead_as, not_worked, worked}
use Rattle.office_life.proofs.Tellings.{closed_as, held_if_known, not_held}
use Rattle.office_sessions.specs.Stints.{DidRequests, IsServedOver}
use Rattle.office_sessions.specs.declared.reports.RequestsEnd.TheVariants as end
use Rattle.office_sessions.proofs.stints.serve_requests.Goals as goal

pub returns-in-Ok-clause-told : goal.returns-in-Ok-clause-told
returns-in-Ok-clause-told g c never =
    let ended = c.serve_at-end.result.0 in
    let last = c.serve_at-end.result.1 in
    let clean = c.close-remains.ensures.clean never in
    inr (
      c.serve_at-end.ensures.opened,
      closed_as (λ store. store ≡ last.store) (IsServedOver (map (λ bytes. bytes.now) c.args.requests.now) ended c.args.files)
          (λ store is stage s stands db may. c.serve_at-end.ensures.left clean s (c.in-Ok.ensures.found never stage s stands) db (subst (λ it. recovers it db) is may))
          c.close-remains.result.0 c.close-remains.result.1 (c.close-remains.ensures.closed never),
    )

pub returns-in-Err-clause-told : goal.returns-in-Err-clause-told
returns-in-Err-clause-told g c never = inl (c.in-Err.error, refl, c.remains_by-remains.ensures, c.in-Err.ensures.stopped never)

pub returns-in-Ok-clause-led : goal.returns-in-Ok-clause-led
returns-in-Ok-clause-led g c never stage known =
    let last = c.serve_at-end.result.1 in
    let remains = c.close-remains.result.0 in
    let rest = c.close-remains.result.1 in
    let held = held_if_known (λ store. store ≡ last.store) stage remains rest (c.close-remains.ensures.closed never) known in
    let old = outcomes g.D.Disk c.args.files.log c.args.files.db in
    let leads = LeadsBy (DidRequests (map (λ bytes. bytes.now) c.args.requests.now) c.serve_at-end.result.0) in
    subst (λ (r : Remains). FilesLead stage (stage_after stage r) leads old (outcomes_left {g = g.D.Disk} rest)) (sym held)
    (worked g.D.Disk g.met.D.Disk.seen_may_stay c.args.files (outcomes_left {g = g.D.Disk} rest) stage c.in-Ok.conn last leads (c.in-Ok.ensures.found never stage)
    (c.serve_at-end.ensures.left (c.close-remains.ensures.clean never)) (c.close-remains.ensures.tables never held))

pub returns-in-Err-clause-led : goal.returns-in-Err-clause-led
returns-in-Err-clause-led g c never stage known =
    let rest = c.in-Err.rest in
    let e = c.in-Err.error in
    let old = outcomes g.D.Disk c.args.files.log c.args.files.db in
    let new = outcomes_left {g = g.D.Disk} rest in
    let leads = LeadsBy (DidRequests (map (λ bytes. bytes.now) c.args.requests.now) (end.FilesShut e)) in
    subst (λ (r : Remains). IsKnownAt stage r → FilesLead stage (stage_after stage r) leads old new) (sym c.remains_by-remains.ensures)
    (λ (as_it_is : IsKnownAt stage (remains_of {g = g.D.Disk} rest)).
    lead_as c.law_of_soundness.ensures.empty stage (stage_after stage (remains_of {g = g.D.Disk} rest)) (Leads task.Resumption (stint_end.FilesShut e)) leads old new
    (λ s u sound led. (led.0, record { formed = subst AreWellFormed (sym led.1) tt; did = led.1 }, led.2))
    (not_worked g.D.Disk g.met.D.Disk.seen_may_stay c.args.files new stage task.Resumption e (remains_of {g = g.D.Disk} rest) (not_held rest) as_it_is (c.in-Err.ensures.spared never stage as_it_is)))
    known
