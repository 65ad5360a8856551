-- What is served with one answer is served, whatever the answer.
use Rattle.std.proofs.Common.{◌≡◌, inl, inr, ℕ, ℤ, List, Option, Some, None, Result, Ok, Err}
use Rattle.sqlite_trees.specs.declared.store.Store.{Ghosts}
use Rattle.office_rules.specs.State.{State}
use Rattle.office_rules.specs.declared.act.Act.{Act}
use Rattle.office_desk.specs.Desk.{DeskState}
use Rattle.office_json.specs.Lists.{NoActs, not_json, bad_act}
use Rattle.office_http.specs.Replies.{Response}
use Rattle.office_wire.specs.Answering.{AnyAnswer, ArePerformed, PerformsActs, Resumes, Serves, RunsOutOfMemory, ReportsCertificate, ReportsContent, ReportsDue, ReportsOverdue, ReportsRecord}
use Rattle.office_http.specs.Receiving.{OfficeRequest, acts, cut, refused, requested}
use Rattle.office_http.specs.declared.path_request.PathRequest.TheVariants as path
use Rattle.office_wire.specs.Serving.{IsServed, LeavesServed}

performed_any : {S : Type 0} (Reported : Response → Type 0) (g : Ghosts S) (t : State) (done : List Act) (desk : DeskState S) → ArePerformed Reported g t done desk → ArePerformed AnyAnswer g t done desk
performed_any Reported g t done desk it = record { outcome = it.outcome; reported = tt; leads = it.leads; came = it.came }

performs_any : {S : Type 0} (Reported : Response → Type 0) (g : Ghosts S) (t : State) (read : Result (List Act) NoActs) (desk : DeskState S) → PerformsActs Reported g t read desk → PerformsActs AnyAnswer g t read desk
performs_any Reported g t (Ok done) desk it = performed_any Reported g t done desk it
performs_any Reported g t (Err not_json) desk it = (tt, it.1)
performs_any Reported g t (Err (bad_act place why)) desk it = (tt, it.1)

resumed_any : {S : Type 0} (Reported : Response → Type 0) (g : Ghosts S) (t : State) (desk : DeskState S) → Resumes Reported g t desk → Resumes AnyAnswer g t desk
resumed_any Reported g t desk it = (it.0, tt, it.2)

content_any : {S : Type 0} (Reported : Response → Type 0) (g : Ghosts S) (t : State) (r : Option ℕ) (desk : DeskState S) → ReportsContent Reported g t r desk → ReportsContent AnyAnswer g t r desk
content_any Reported g t None desk it = (tt, it.1)
content_any Reported g t (Some r) desk it = (it.0, tt, it.2, it.3)

record_any : {S : Type 0} (Reported : Response → Type 0) (g : Ghosts S) (t : State) (r : Option ℕ) (desk : DeskState S) → ReportsRecord Reported g t r desk → ReportsRecord AnyAnswer g t r desk
record_any Reported g t None desk it = (tt, it.1)
record_any Reported g t (Some r) desk it = (inl tt, it.1)

due_any : {S : Type 0} (Reported : Response → Type 0) (g : Ghosts S) (t : State) (day : Option ℤ) (desk : DeskState S) → ReportsDue Reported g t day desk → ReportsDue AnyAnswer g t day desk
due_any Reported g t None desk it = (tt, it.1)
due_any Reported g t (Some day) desk it = (inr tt, it.1)

overdue_any : {S : Type 0} (Reported : Response → Type 0) (g : Ghosts S) (t : State) (day : Option ℤ) (count : Option ℕ) (desk : DeskState S) → ReportsOverdue Reported g t day count desk → ReportsOverdue AnyAnswer g t day count desk
overdue_any Reported g t None count desk it = (tt, it.1)
overdue_any Reported g t (Some day) None desk it = (tt, it.1)
overdue_any Reported g t (Some day) (Some n) desk it = (inr tt, it.1)

certificate_any : {S : Type 0} (Reported : Response → Type 0) (g : Ghosts S) (t : State) (run : Option ℕ) (desk : DeskState S) → ReportsCertificate Reported g t run desk → ReportsCertificate AnyAnswer g t run desk
certificate_any Reported g t None desk it = (tt, it.1)
certificate_any Reported g t (Some run) desk it = (inl tt, it.1)

serves_any : {S : Type 0} (Reported : Response → Type 0) (g : Ghosts S) (t : State) (it : OfficeRequest) (desk : DeskState S) → Serves Reported g t it desk → Serves AnyAnswer g t it desk
serves_any Reported g t (refused check) desk served = (tt, served.1)
serves_any Reported g t cut desk served = (tt, served.1)
serves_any Reported g t (acts body) desk served = performs_any Reported g t _ desk served
serves_any Reported g t (requested path.Resume) desk served = resumed_any Reported g t desk served
serves_any Reported g t (requested (path.Record r)) desk served = record_any Reported g t r desk served
serves_any Reported g t (requested (path.Content r)) desk served = content_any Reported g t r desk served
serves_any Reported g t (requested (path.Due day)) desk served = due_any Reported g t day desk served
serves_any Reported g t (requested (path.Overdue day count)) desk served = overdue_any Reported g t day count desk served
serves_any Reported g t (requested (path.Certificate run)) desk served = certificate_any Reported g t run desk served

-- where memory ran out for it, the desk is where serving it leaves it, or where it was
out_of_memory_leaves : {S : Type 0} (g : Ghosts S) (t : State) (it : OfficeRequest) (desk : DeskState S) → RunsOutOfMemory g t it desk → LeavesServed g t desk
out_of_memory_leaves g t (refused check) desk out = absurd out
out_of_memory_leaves g t cut desk out = absurd out
out_of_memory_leaves g t (acts body) desk (inl at) = (cut, (tt, at))
out_of_memory_leaves g t (acts body) desk (inr served) = (acts body, served)
out_of_memory_leaves g t (requested path.Resume) desk served = (requested path.Resume, served)
out_of_memory_leaves g t (requested (path.Record r)) desk out = (cut, (tt, out.1))
out_of_memory_leaves g t (requested (path.Content None)) desk out = absurd out
out_of_memory_leaves g t (requested (path.Content (Some r))) desk out = (requested (path.Content (Some r)), (Err out.0, tt, out.1, out.2))
out_of_memory_leaves g t (requested (path.Due day)) desk out = (cut, (tt, out.1))
out_of_memory_leaves g t (requested (path.Overdue day count)) desk out = (cut, (tt, out.2))
out_of_memory_leaves g t (requested (path.Certificate run)) desk out = (cut, (tt, out.1))

-- what is served leaves the desk as serving it may
pub served_leaves : {S : Type 0} (g : Ghosts S) (t : State) (it : OfficeRequest) (r : Response) (desk : DeskState S) → IsServed g t it r desk → LeavesServed g t desk
served_leaves g t it r desk (inl answered) = (it, serves_any (λ reported. r ≡ reported) g t it desk answered)
served_leaves g t it r desk (inr (is, out)) = out_of_memory_leaves g t it desk out
