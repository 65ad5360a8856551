use Rattle.std.proofs.Common.{sym, subst, List, ℕ, map, None, Bor}
use Rattle.sqlite.specs.Held.{Held, state}
use Rattle.sqlite.specs.State.{HasCleanDisk}
use Rattle.office_life.specs.Life.{LeadsBy}
use Rattle.office_life.specs.Standing.{LeavesAt}
use Rattle.office_sessions.specs.Stints.{DidRequests}
use Rattle.office_sessions.specs.declared.reports.RequestsEnd.TheVariants as end
use Rattle.office_sessions.proofs.Stopping.{none_answered}
use Rattle.office_sessions.proofs.serving.serve_on.Goals as goal

pub returns-in_default-clause-left : goal.returns-in_default-clause-left
returns-in_default-clause-left g c clean s at =
    let came = map {A = Bor (List ℕ)} {B = List ℕ} (λ bytes. bytes.now) c.args.requests.now in
    let answers = c.new-in_default.result in
    subst (λ (h : Held _). LeavesAt (LeadsBy (DidRequests came (end.Stopped answers None)) s) (state g.S.Store h)) (sym c.close.ensures.same)
    (none_answered g.S.Store s came answers c.new-in_default.ensures.items c.args.desk at)

pub returns-clause-left : goal.returns-clause-left
returns-clause-left g c clean s at =
    let came = map {A = Bor (List ℕ)} {B = List ℕ} (λ bytes. bytes.now) c.args.requests.now in
    let same = c.close-2.ensures.same in
    subst (λ (h : Held _). LeavesAt (LeadsBy (DidRequests came c.serve_each-end.result) s) (state g.S.Store h)) (sym same)
    (c.serve_each-end.ensures.left (subst (λ (h : Held _). HasCleanDisk (state g.S.Store h)) same clean) s at)
