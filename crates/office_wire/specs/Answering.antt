-- What is answered to a request, and where the desk is then. Source: own.
use Rattle.std.specs.FinMap.{get}
use Rattle.std.specs.Prelude.{◌≡◌, ◌⊎◌, ℕ, ℤ, IfOk, IsSome, IsSomeAnd, IsTrue, List, MatchResult, OnErr, [], Option, Some, None, Result, Ok, Err}
use Rattle.sqlite.specs.Held.{state}
use Rattle.sqlite_trees.specs.declared.store.Store.{Ghosts}
use Rattle.office_base.specs.declared.refusal.Refusal.TheVariants as refusal
use Rattle.office_rules.specs.Readings.{ending_entry, record_view}
use Rattle.office_rules.specs.Registers.{AreDueRows, AreOverdueRows, DueRowView}
use Rattle.office_rules.specs.State.{Office, State}
use Rattle.office_rules.specs.declared.act.Act.{Act}
use Rattle.office_rules.specs.declared.answer.Answer.TheVariants.{Refused, RunClosed}
use Rattle.office_base.specs.declared.memory.Memory.{Memory}
use Rattle.office_store.specs.declared.fault.Fault.{Fault}
use Rattle.office_store.specs.declared.fault.Fault.TheVariants as fault
use Rattle.office_desk.specs.Contents.{IsContentRead}
use Rattle.office_desk.specs.Desk.{DeskState}
use Rattle.office_desk.specs.Leaving.{HasContent, IsAt}
use Rattle.office_desk.specs.Outcomes.{ActsCameTo, ActsLead, ActsOutcome, all_done, stopped}
use Rattle.office_desk.specs.Resumptions.{RunCameTo, RunOutcome, none_open, run_closed, run_stopped}
use Rattle.office_json.specs.Lists.{NoActs, not_json, bad_act, acts_in}
use Rattle.office_http.specs.Replies.{Response, check_response, error_response, response}
use Rattle.office_http.specs.declared.request_error.RequestError.{RequestError}
use Rattle.office_http.specs.declared.request_error.RequestError.TheVariants as error
use Rattle.office_http.specs.declared.reply.Reply.{Reply}
use Rattle.office_http.specs.declared.status.Status.TheVariants as status
use Rattle.office_wire.specs.Calling.{AnsweredAt}
use Rattle.office_wire.specs.declared.answers.Reported.{Reported}
use Rattle.office_http.specs.Receiving.{OfficeRequest, acts, cut, refused, requested}
use Rattle.office_http.specs.declared.path_request.PathRequest.TheVariants as path
use Rattle.office_wire.specs.Replies.{acts_response, answer_response, bad_act_response, certificate_response, content_response, due_response, fault_response, overdue_response, record_response, stopped_response}

-- ---- acts; Reported says which answer is given

-- the answer to acts that came to this
abbrev pub acts_reply : ActsOutcome → Response
acts_reply (all_done replies) = acts_response replies
acts_reply (stopped replies f) = stopped_response replies f

-- acts were performed: they came to this, and that is answered
pub record ArePerformed {S : Type 0} (Reported : Response → Type 0) (g : Ghosts S) (t : State) (done : List Act)
    (desk : DeskState S) : Type 0 where
  pub outcome : ActsOutcome
  pub reported : Reported (acts_reply outcome)
  pub leads : ActsLead t done outcome desk
  pub came : ActsCameTo t done outcome (state g desk.connection)

-- what bytes ask for, by what is read of them
abbrev pub PerformsActs : {S : Type 0} → (Response → Type 0) → Ghosts S → State → Result (List Act) NoActs
    → DeskState S → Type 0
PerformsActs Reported g t (Ok done) desk = ArePerformed Reported g t done desk
PerformsActs Reported g t (Err not_json) desk = Reported (error_response error.Json) × IsAt g t desk
PerformsActs Reported g t (Err (bad_act place why)) desk = Reported (bad_act_response place why) × IsAt g t desk

-- ---- the open run

-- the answer to a resumption that came to this
abbrev pub run_reply : RunOutcome → Response
run_reply (run_closed run) = answer_response (RunClosed run)
run_reply none_open = answer_response (Refused refusal.NoRun)
run_reply (run_stopped f) = fault_response f

-- the open run was resumed: it came to this, and that is answered
abbrev pub Resumes : {S : Type 0} → (Response → Type 0) → Ghosts S → State → DeskState S → Type 0
Resumes Reported g t desk = (o : RunOutcome) × Reported (run_reply o) × RunCameTo g t o desk

-- ---- what is reported

-- the office has this record, or a certificate of this run
abbrev pub HasRecord : State → ℕ → Type 0
HasRecord t r = IsSome (record_view t.office r)

abbrev pub HasCertificate : State → ℕ → Type 0
HasCertificate t run = IsSome (get t.office.certificates run)

-- an answer that changes nothing; or, of what is there, lack of memory for it
abbrev pub Reports : {S : Type 0} → (Response → Type 0) → Ghosts S → State → Type 0 → Response → DeskState S → Type 0
Reports Reported g t IsThere response desk =
    (Reported response ⊎ Reported (fault_response fault.Memory) × IsThere) × IsAt g t desk

-- a number or a day that names nothing
abbrev pub ReportsNone : {S : Type 0} → (Response → Type 0) → Ghosts S → State → Response → DeskState S → Type 0
ReportsNone Reported g t response desk = Reported response × IsAt g t desk

abbrev pub ReportsRecord : {S : Type 0} → (Response → Type 0) → Ghosts S → State → Option ℕ → DeskState S → Type 0
ReportsRecord Reported g t None desk = ReportsNone Reported g t (error_response error.Record) desk
ReportsRecord Reported g t (Some r) desk =
    Reports Reported g t (HasRecord t r) (record_response (record_view t.office r) (ending_entry t.office r)) desk

-- the answer to the reading of a content that came to this
abbrev pub content_reply : Result (Option (List ℕ)) Fault → Response
content_reply (Ok content) = content_response content
content_reply (Err f) = fault_response f

-- the content of the record, or that there is none; a fault comes of a content that is there
abbrev pub ReportsContent : {S : Type 0} → (Response → Type 0) → Ghosts S → State → Option ℕ → DeskState S → Type 0
ReportsContent Reported g t None desk = ReportsNone Reported g t (error_response error.Content) desk
ReportsContent Reported g t (Some r) desk =
    (found : Result (Option (List ℕ)) Fault) × Reported (content_reply found) × IsContentRead g t r found desk
    × OnErr found (HasContent t.office.tree r)

abbrev pub ReportsDue : {S : Type 0} → (Response → Type 0) → Ghosts S → State → Option ℤ → DeskState S → Type 0
ReportsDue Reported g t None desk = ReportsNone Reported g t (error_response error.Day) desk
ReportsDue Reported g t (Some day) desk =
    (((rows : List DueRowView) × AreDueRows t.office day rows × Reported (due_response rows))
    ⊎ Reported (fault_response fault.Memory)) × IsAt g t desk

-- what is overdue on a day, so many days after the due day; of a bad day and a bad count the day is reported
abbrev pub ReportsOverdue : {S : Type 0} → (Response → Type 0) → Ghosts S → State → Option ℤ → Option ℕ → DeskState S
    → Type 0
ReportsOverdue Reported g t None count desk = ReportsNone Reported g t (error_response error.Day) desk
ReportsOverdue Reported g t (Some day) None desk = ReportsNone Reported g t (error_response error.Count) desk
ReportsOverdue Reported g t (Some day) (Some n) desk =
    (((rows : List DueRowView) × AreOverdueRows t.office day n rows × Reported (overdue_response n rows))
    ⊎ Reported (fault_response fault.Memory)) × IsAt g t desk

abbrev pub ReportsCertificate : {S : Type 0} → (Response → Type 0) → Ghosts S → State → Option ℕ → DeskState S → Type 0
ReportsCertificate Reported g t None desk = ReportsNone Reported g t (error_response error.Certificate) desk
ReportsCertificate Reported g t (Some run) desk =
    Reports Reported g t (HasCertificate t run) (certificate_response (get t.office.certificates run)) desk

-- ---- what the code answers

-- what was read of a record in an office
abbrev pub IsReportedOf : Office → ℕ → Option Reported → Type 0
IsReportedOf s r None = record_view s r ≡ None
IsReportedOf s r (Some it) = (record_view s r ≡ Some it.view) × (ending_entry s r ≡ it.ending)

-- ---- all of it

-- what is requested of the office in a state is answered, and the desk is where that leaves it
abbrev pub Serves : {S : Type 0} → (Response → Type 0) → Ghosts S → State → OfficeRequest → DeskState S → Type 0
Serves Reported g t (refused check) desk = ReportsNone Reported g t (check_response check) desk
Serves Reported g t cut desk = ReportsNone Reported g t (error_response error.Body) desk
Serves Reported g t (acts body) desk = PerformsActs Reported g t (acts_in body) desk
Serves Reported g t (requested path.Resume) desk = Resumes Reported g t desk
Serves Reported g t (requested (path.Record r)) desk = ReportsRecord Reported g t r desk
Serves Reported g t (requested (path.Content r)) desk = ReportsContent Reported g t r desk
Serves Reported g t (requested (path.Due day)) desk = ReportsDue Reported g t day desk
Serves Reported g t (requested (path.Overdue day n)) desk = ReportsOverdue Reported g t day n desk
Serves Reported g t (requested (path.Certificate run)) desk = ReportsCertificate Reported g t run desk

-- it was served with this answer
abbrev pub Answers : {S : Type 0} → Ghosts S → State → OfficeRequest → Response → DeskState S → Type 0
Answers g t request response desk = Serves (λ reported. response ≡ reported) g t request desk

-- ---- a poisoned desk

-- acts are stopped before the first one
abbrev pub gone_acts : Result (List Act) NoActs → Response
gone_acts (Ok all) = stopped_response [] fault.Reopen
gone_acts (Err not_json) = error_response error.Json
gone_acts (Err (bad_act place why)) = bad_act_response place why

-- nothing is reported of what a number or a day names
abbrev pub gone_reading : {A : Type 0} → RequestError → Option A → Response
gone_reading why None = error_response why
gone_reading why (Some it) = fault_response fault.Reopen

abbrev pub gone_overdue : Option ℤ → Option ℕ → Response
gone_overdue None count = error_response error.Day
gone_overdue (Some day) count = gone_reading error.Count count

-- the answer of a poisoned desk: fault 32 in place of all that it would do or report
abbrev pub gone_response : OfficeRequest → Response
gone_response (refused check) = check_response check
gone_response cut = error_response error.Body
gone_response (acts body) = gone_acts (acts_in body)
gone_response (requested path.Resume) = fault_response fault.Reopen
gone_response (requested (path.Record r)) = gone_reading error.Record r
gone_response (requested (path.Content r)) = gone_reading error.Content r
gone_response (requested (path.Due day)) = gone_reading error.Day day
gone_response (requested (path.Overdue day count)) = gone_overdue day count
gone_response (requested (path.Certificate run)) = gone_reading error.Certificate run

-- an answer that reports a fault, or lack of memory
abbrev pub IsUnavailable : Response → Type 0
IsUnavailable r = r.status ≡ status.ServiceUnavailable

-- ---- lack of memory

-- any answer, or none
abbrev pub AnyAnswer : Response → Type 0
AnyAnswer r = Unit {0}

-- what takes memory to answer: a failed check, a cut body and what names nothing are answered from fixed bytes
abbrev pub TakesMemory : OfficeRequest → Type 0
TakesMemory (refused check) = ⊥
TakesMemory cut = ⊥
TakesMemory (acts body) = Unit {0}
TakesMemory (requested path.Resume) = Unit {0}
TakesMemory (requested (path.Record r)) = IsSome r
TakesMemory (requested (path.Content r)) = IsSome r
TakesMemory (requested (path.Due day)) = IsSome day
TakesMemory (requested (path.Overdue day n)) = IsSome day × IsSome n
TakesMemory (requested (path.Certificate run)) = IsSome run

-- memory ran out for its answer: what it asks for was done, but for acts that could not be read; of a content only the
-- answer to a fault takes memory, and the answer that nothing is there takes none
abbrev pub RunsOutOfMemory : {S : Type 0} → Ghosts S → State → OfficeRequest → DeskState S → Type 0
RunsOutOfMemory g t (refused check) desk = ⊥
RunsOutOfMemory g t cut desk = ⊥
RunsOutOfMemory g t (acts body) desk = IsAt g t desk ⊎ PerformsActs AnyAnswer g t (acts_in body) desk
RunsOutOfMemory g t (requested path.Resume) desk = Resumes AnyAnswer g t desk
RunsOutOfMemory g t (requested (path.Record number)) desk = IsSomeAnd number (λ r. HasRecord t r) × IsAt g t desk
RunsOutOfMemory g t (requested (path.Content number)) desk =
    IsSomeAnd number (λ r. (f : Fault) × IsContentRead g t r (Err f) desk × HasContent t.office.tree r)
RunsOutOfMemory g t (requested (path.Due day)) desk = IsSome day × IsAt g t desk
RunsOutOfMemory g t (requested (path.Overdue day n)) desk = IsSome day × IsSome n × IsAt g t desk
RunsOutOfMemory g t (requested (path.Certificate number)) desk =
    IsSomeAnd number (λ run. HasCertificate t run) × IsAt g t desk

-- ---- calls at a desk

-- the answer that was given; any where memory ran out for it
abbrev pub IsGiven : Result Reply Memory → Response → Type 0
IsGiven given it = IfOk given (λ reply. response reply ≡ it)

-- the answer that was given reports a fault, or lack of memory
abbrev pub IsGivenUnavailable : Result Reply Memory → Type 0
IsGivenUnavailable given = IfOk given (λ reply. IsUnavailable (response reply))

-- acts were done and answered
abbrev pub ArePerformedBy : {S : Type 0} → Ghosts S → List Act → Result Reply Memory → DeskState S → DeskState S
    → Type 0
ArePerformedBy g done given old new =
    AnsweredAt g old new (λ t. ArePerformed (IsGiven given) g t done new)
    (IsGiven given (stopped_response [] fault.Reopen)) (IsGivenUnavailable given)

-- what is requested was done and answered
abbrev pub IsPerformed : {S : Type 0} → Ghosts S → OfficeRequest → Result Reply Memory → DeskState S → DeskState S
    → Type 0
IsPerformed g request given old new =
    AnsweredAt g old new (λ t. Serves (IsGiven given) g t request new) (IsGiven given (gone_response request))
    (IsGivenUnavailable given)

-- at a state it was served with the answer that was given, or memory ran out for that
abbrev pub IsGivenAt : {S : Type 0} → Ghosts S → State → OfficeRequest → Result Reply Memory → DeskState S → Type 0
IsGivenAt g t request given desk =
    MatchResult given (λ reply. Answers g t request (response reply) desk) (λ _. RunsOutOfMemory g t request desk)

-- the answer that was given is that of a poisoned desk, or memory ran out for what takes it
abbrev pub IsGoneGiven : OfficeRequest → Result Reply Memory → Type 0
IsGoneGiven request given =
    MatchResult given (λ reply. response reply ≡ gone_response request) (λ _. TakesMemory request)

-- what is requested was answered, or memory ran out for the answer
abbrev pub IsAnswered : {S : Type 0} → Ghosts S → OfficeRequest → Result Reply Memory → DeskState S → DeskState S
    → Type 0
IsAnswered g request given old new =
    AnsweredAt g old new (λ t. IsGivenAt g t request given new) (IsGoneGiven request given) (IsGivenUnavailable given)

-- what is requested was read of a desk, which stays as it is, and answered
pub record IsRead {S : Type 0} (g : Ghosts S) (request : OfficeRequest) (given : Result Reply Memory)
    (desk : DeskState S) : Type 0 where
  pub answered : (t : State) → IsAt g t desk → IsGivenAt g t request given desk
  pub gone : IsTrue desk.is_poisoned → IsGoneGiven request given
