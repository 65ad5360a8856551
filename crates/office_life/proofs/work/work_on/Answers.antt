use Rattle.std.proofs.Common.{List, sym, subst}
use Rattle.sqlite.specs.Held.{state}
use Rattle.office_rules.specs.declared.act.Act.{Act}
use Rattle.office_life.specs.Life.{DidActs, Leads, LeadsBy}
use Rattle.office_life.specs.Standing.{LeavesAt}
use Rattle.office_life.specs.declared.reports.Task.{Task}
use Rattle.office_life.proofs.work.work_on.Goals as goal

pub returns-in-Acts-clause-left : goal.returns-in-Acts-clause-left
returns-in-Acts-clause-left g c clean s at =
    let it = c.act_on.result.0 in
    let new = state g.S.Store c.act_on.result.1 in
    subst (λ (t : Task). LeavesAt (Leads t it s) new) (sym c.in-Acts.is)
    (subst (λ (xs : List Act). LeavesAt (LeadsBy (DidActs xs it) s) new) c.as_slice.ensures.value (c.act_on.ensures.left clean s at))

pub returns-in-Resumption-clause-left : goal.returns-in-Resumption-clause-left
returns-in-Resumption-clause-left g c clean s at =
    subst (λ (t : Task). LeavesAt (Leads t c.resume_on.result.0 s) (state g.S.Store c.resume_on.result.1)) (sym c.in-Resumption.is) (c.resume_on.ensures.left clean s at)
