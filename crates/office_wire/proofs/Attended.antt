-- Where a desk is after a session, and what went out.
use Rattle.std.proofs.Common.{◌≡◌, ◌≢◌, ◌⊎◌, ◌∙◌, inl, inr, ap, refl, subst, sym, ℕ, Bool, false, List, [], ◌∷◌, ◌++◌, Option, Some, None, Result, Ok, Err}
use Rattle.std.specs.FinMap.{get}
use Rattle.std.specs.Prelude.{IfOk, IsOkAnd}
use Rattle.sqlite.specs.Held.{state}
use Rattle.sqlite.specs.State.{HasCleanDisk}
use Rattle.sqlite_trees.specs.declared.store.Store.{Ghosts}
use Rattle.office_base.specs.declared.output.Io.{Io}
use Rattle.office_rules.specs.Acts.{after, answers}
use Rattle.office_rules.specs.Runs.{open_run}
use Rattle.office_rules.specs.State.{State}
use Rattle.office_rules.specs.declared.act.Act.{Act}
use Rattle.office_rules.specs.declared.answer.Answer.{Answer}
use Rattle.office_store.specs.declared.fault.Fault.{Fault}
use Rattle.office_store.specs.declared.fault.Fault.TheVariants as fault
use Rattle.office_desk.specs.Contents.{IsContentRead}
use Rattle.office_desk.specs.Desk.{DeskState}
use Rattle.office_desk.specs.Leaving.{IsAt, IsContentReported}
use Rattle.office_desk.specs.Outcomes.{ActsCameTo, ActsLead, ActsOutcome, all_done, stopped}
use Rattle.office_desk.specs.Resumptions.{none_open, run_closed, run_stopped}
use Rattle.office_desk.specs.Resuming.{resumed_answer}
use Rattle.office_json.specs.Lists.{NoActs, acts_in, bad_act, not_json}
use Rattle.office_http.specs.Receiving.{OfficeRequest, acts, cut, refused, requested, office_request}
use Rattle.office_http.specs.Replies.{Response, error_response, response_text, status_number}
use Rattle.office_http.specs.Requests.{Request, IsRequest, nothing, headless, asks}
use Rattle.office_http.specs.declared.request_error.RequestError.TheVariants as error
use Rattle.office_http.specs.declared.path_request.PathRequest.TheVariants as path
use Rattle.office_http.specs.declared.status.Status.{Status}
use Rattle.office_wire.specs.Answering.{Answers, IsUnavailable, PerformsActs, Reports, Resumes, acts_reply, content_reply}
use Rattle.office_wire.specs.Exchanges.{AreExchanged, IsExchanged, none, one_more}
use Rattle.office_wire.specs.Replies.{acts_response, answer_response, content_response, fault_response, json_response, stopped_response}
use Rattle.office_wire.specs.Serving.{IsReply, IsReplied, IsServed, Replies}
use Rattle.office_wire.specs.Sessions.{AreWellAnswered, Attends, IsAnswer, IsAnsweredBy, IsSession, acts_answer, after_asked, after_request, after_resumed, after_office_request, bytes_of}
use Rattle.office_wire.specs.Sources.{Sent}
use Rattle.office_wire.proofs.SessionSteps.{begun, same_session, went_on}
use Rattle.office_wire.proofs.Unavailable.{memory_unavailable}

-- an answer that reports no fault and no lack of memory
abbrev IsWell : Response → Type 0
IsWell r = IsUnavailable r → ⊥

fault_is : (r : Response) (f : Fault) → IsWell r → r ≡ fault_response f → ⊥
unfolding json_response
fault_is r f well is = well (subst (λ (x : Response). IsUnavailable x) (sym is) refl)

stopped_is : (r : Response) (replies : List Answer) (f : Fault) → IsWell r → r ≡ stopped_response replies f → ⊥
unfolding json_response
stopped_is r replies f well is = well (subst (λ (x : Response). IsUnavailable x) (sym is) refl)

memory_is : (r : Response) → IsWell r → r ≡ error_response error.Memory → ⊥
memory_is r well is = well (subst (λ (x : Response). IsUnavailable x) (sym is) memory_unavailable)

reported_is : (t : State) (n : ℕ) (content : Option (List ℕ)) → IsContentReported t n content → get t.contents n ≡ content
reported_is t n None is = is
reported_is t n (Some bytes) is = is.0

module _ {S : Type 0} (g : Ghosts S) (t : State) (d : DeskState S) (r : Response) (well : IsWell r) where
  outcome_well : (done : List Act) (o : ActsOutcome) → r ≡ acts_reply o → ActsLead t done o d → ActsCameTo t done o (state g d.connection) → (r ≡ acts_response (answers t done)) × IsAt g (after t done) d
  outcome_well done (all_done replies) is leads came = (
    is ∙ ap (λ (x : List Answer). acts_response x) came.answered,
    record { is_open = leads.1; office = leads.0; sound = came.leaves.sound; rows = came.leaves.rows },
  )
  outcome_well done (stopped replies f) is leads came = absurd (stopped_is r replies f well is)

  acts_well : (asked : Result (List Act) NoActs) → PerformsActs (λ reported. r ≡ reported) g t asked d → (r ≡ acts_answer t asked) × IsAt g (after_asked t asked) d
  acts_well (Ok done) it = outcome_well done it.outcome it.reported it.leads it.came
  acts_well (Err not_json) it = it
  acts_well (Err (bad_act place why)) it = it

  run_well : Resumes (λ reported. r ≡ reported) g t d → (r ≡ answer_response (resumed_answer (open_run t.office))) × IsAt g (after_resumed t (open_run t.office)) d
  run_well (run_closed run, is, it) =
      subst (λ (o : Option ℕ). (r ≡ answer_response (resumed_answer o)) × IsAt g (after_resumed t o) d) (sym it.fits) (is, it.leads)
  run_well (none_open, is, it) =
      subst (λ (o : Option ℕ). (r ≡ answer_response (resumed_answer o)) × IsAt g (after_resumed t o) d) (sym it.fits) (is, it.leads)
  run_well (run_stopped f, is, it) = absurd (fault_is r f well is)

  reading_well : (IsThere : Type 0) (it : Response) → Reports (λ reported. r ≡ reported) g t IsThere it d → (r ≡ it) × IsAt g t d
  reading_well IsThere it (inl is, at) = (is, at)
  reading_well IsThere it (inr is, at) = absurd (fault_is r fault.Memory well is.0)

  content_well : (n : ℕ) (found : Result (Option (List ℕ)) Fault) → r ≡ content_reply found → IsContentRead g t n found d → (r ≡ content_response (get t.contents n)) × IsAt g t d
  content_well n (Ok content) is it = (is ∙ ap (λ (x : Option (List ℕ)). content_response x) (sym (reported_is t n content it.ends.reported)), it.ends.represents)
  content_well n (Err f) is it = absurd (fault_is r f well is)

  rows_well : (P : Type 0) → (P ⊎ (r ≡ fault_response fault.Memory)) × IsAt g t d → P × IsAt g t d
  rows_well P (inl is, at) = (is, at)
  rows_well P (inr is, at) = absurd (fault_is r fault.Memory well is)

  request_well : (it : OfficeRequest) → Answers g t it r d → IsAnswer t it r × IsAt g (after_office_request t it) d
  request_well (refused check) served = served
  request_well cut served = served
  request_well (acts body) served = acts_well (acts_in body) served
  request_well (requested path.Resume) served = run_well served
  request_well (requested (path.Record None)) served = served
  request_well (requested (path.Record (Some n))) served = reading_well _ _ served
  request_well (requested (path.Content None)) served = served
  request_well (requested (path.Content (Some n))) (found, is, it, there) = content_well n found is it
  request_well (requested (path.Due None)) served = served
  request_well (requested (path.Due (Some day))) served = rows_well _ served
  request_well (requested (path.Overdue None n)) served = served
  request_well (requested (path.Overdue (Some day) None)) served = served
  request_well (requested (path.Overdue (Some day) (Some n))) served = rows_well _ served
  request_well (requested (path.Certificate None)) served = served
  request_well (requested (path.Certificate (Some run))) served = reading_well _ _ served

  served_well : (it : OfficeRequest) → IsServed g t it r d → IsAnswer t it r × IsAt g (after_office_request t it) d
  served_well it (inl answered) = request_well it answered
  served_well it (inr (is, out)) = absurd (memory_is r well is)

  -- the answer to a request, and where it leads
  abbrev IsWellReplied : Request → Bool → Type 0
  IsWellReplied q is_head = IsAnsweredBy t q (response_text is_head r) × IsAt g (after_request t q) d

  replied_well : (q : Request) (is_head : Bool) → IsReplied g t q is_head r d → IsWellReplied q is_head
  replied_well nothing is_head it = absurd it
  replied_well headless is_head it = (ap (λ (b : Bool). response_text b r) it.0 ∙ ap (λ (x : Response). response_text false x) it.1, it.2)
  replied_well (asks h rest) is_head (head, inl served) =
      let well_served = served_well (office_request h rest) served in
      ((r, well_served.0, ap (λ (b : Bool). response_text b r) head), well_served.1)
  replied_well (asks h rest) is_head (head, inr (lacks, at)) = absurd (memory_is r well lacks.1)

  reply_well : (bytes : List ℕ) (unread : Type 0) (is_head : Bool) → IsReply g t bytes unread is_head r d → (q : Request) × IsRequest q bytes × IsWellReplied q is_head
  reply_well bytes unread is_head (inl (q, is, replied)) = (q, is, replied_well q is_head replied)
  reply_well bytes unread is_head (inr (was, head, is, at)) = absurd (memory_is r well is)

module _ {S : Type 0} (g : Ghosts S) where
  -- one connection
  abbrev IsWellServed : State → List ℕ → List ℕ → DeskState S → Type 0
  IsWellServed t bytes out d = (q : Request) × IsRequest q bytes × IsAnsweredBy t q out × IsAt g (after_request t q) d

  replies_well : (t : State) (bytes out : List ℕ) (code : ℕ) (d : DeskState S) → code ≢ 503 → Replies g t bytes (Unit {0}) code (Some []) (Some out) d → IsWellServed t bytes out d
  replies_well t bytes out code d other (inl silent) = (nothing, silent.0, (let same = silent.2 in cc), silent.3)
  replies_well t bytes out code d other (inr (is_head, r, reply, writes)) =
      let well : IsWell r = λ gone. other (writes.1 ∙ ap (λ (s : Status). status_number s) gone) in
      let it = reply_well g t d r well bytes (Unit {0}) is_head reply in
      (it.0, it.1, subst (λ (x : List ℕ). IsAnsweredBy t it.0 x) (sym writes.0) it.2.0, it.2.1)

  ok_well : (status : Result ℕ Io) (P Q : ℕ → Type 0) → IsOkAnd status P → IfOk status Q → (code : ℕ) × P code × Q code
  ok_well (Ok code) P Q is then = (code, is, then)
  ok_well (Err e) P Q is then = absurd is

  exchanged_well : (t : State) (bytes : List ℕ) (it : Sent) (old new : DeskState S) → IsExchanged g bytes it old new → IsOkAnd it.status (λ code. code ≢ 503) → HasCleanDisk (state g new.connection) → IsAt g t old → IsWellServed t bytes it.bytes new
  exchanged_well t bytes it old new exchanged well clean at =
      let one = exchanged.served.call.did t clean at in
      let got = ok_well it.status (λ code. code ≢ 503) (λ code. Replies g t bytes (Unit {0}) code (Some []) (Some it.bytes) new) well one.ok in
      replies_well t bytes it.bytes got.0 new got.1 got.2

  all_but_last : (sent : List Sent) (it : Sent) → AreWellAnswered (sent ++ it ∷ []) → AreWellAnswered sent × IsOkAnd it.status (λ code. code ≢ 503)
  all_but_last [] it well = (tt, well.0)
  all_but_last (first ∷ rest) it well = let later = all_but_last rest it well.1 in ((well.0, later.0), later.1)

  bytes_more : (sent : List Sent) (it : Sent) → bytes_of (sent ++ it ∷ []) ≡ bytes_of sent ++ it.bytes ∷ []
  bytes_more [] it = refl
  bytes_more (first ∷ rest) it = ap (λ (x : List (List ℕ)). first.bytes ∷ x) (bytes_more rest it)

  -- where a desk is after a session
  abbrev pub IsAfterSession : State → List (List ℕ) → List Sent → DeskState S → Type 0
  IsAfterSession s came sent d = (u : State) × IsSession s came (bytes_of sent) u × IsAt g u d

  session_more : (s : State) (came : List (List ℕ)) (sent : List Sent) (bytes : List ℕ) (it : Sent) (old new : DeskState S) → IsAfterSession s came sent old → IsExchanged g bytes it old new → IsOkAnd it.status (λ code. code ≢ 503) → HasCleanDisk (state g new.connection)
      → IsAfterSession s (came ++ bytes ∷ []) (sent ++ it ∷ []) new
  session_more s came sent bytes it old new (t, session, at) exchanged well clean =
      let one = exchanged_well t bytes it old new exchanged well clean at in (
        after_request t one.0,
        subst (λ (x : List (List ℕ)). IsSession s (came ++ bytes ∷ []) x (after_request t one.0)) (sym (bytes_more sent it)) (went_on s t came (bytes_of sent) one.0 bytes it.bytes session one.1 one.2),
        one.3,
      )

  session_of : (s : State) (old : DeskState S) (came : List (List ℕ)) (sent : List Sent) (new : DeskState S) → AreExchanged g old came sent new → AreWellAnswered sent → HasCleanDisk (state g new.connection) → IsAt g s old → IsAfterSession s came sent new
  session_of s old _ _ _ none well clean at = (s, begun s, at)
  session_of s old _ _ _ (one_more came sent bytes it mid new before exchanged) well clean at =
      let parts = all_but_last sent it well in
      session_more s came sent bytes it mid new (session_of s old came sent mid before parts.0 (exchanged.served.call.clean clean) at) exchanged parts.1 clean

  pub attended : (s : State) (came : List (List ℕ)) (sent : List Sent) (old new : DeskState S) → Attends g s came sent old new → IsAfterSession s came sent new
  attended s came sent old new it = session_of s old came sent new it.exchanged it.well it.clean it.began

  pub attended_alike : (s : State) (came : List (List ℕ)) (sent other_sent : List Sent) (old one other_old other : DeskState S) → Attends g s came sent old one → Attends g s came other_sent other_old other
      → (bytes_of sent ≡ bytes_of other_sent) × ((u : State) × IsAt g u one × IsAt g u other)
  attended_alike s came sent other_sent old one other_old other it that =
      let first = attended s came sent old one it in
      let second = attended s came other_sent other_old other that in
      let same = same_session s first.0 second.0 came (bytes_of sent) (bytes_of other_sent) first.1 second.1 in
      (same.0, (first.0, first.2, subst (λ (u : State). IsAt g u other) (sym same.1) second.2))
