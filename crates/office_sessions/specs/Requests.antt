-- What is done for a request, and what goes out of its response. Source: own.
use Rattle.std.specs.Prelude.{◌≡◌, ◌≢◌, ◌⊎◌, ◌≤◌, ◌+◌, ℕ, Bool, false, List, [], length, take, IsOkAnd, MatchResult, Result, Ok, Err}
use Rattle.office_rules.specs.Acts.{after, answers}
use Rattle.office_rules.specs.Runs.{open_run}
use Rattle.office_rules.specs.State.{State}
use Rattle.office_rules.specs.declared.act.Act.{Act}
use Rattle.office_rules.specs.declared.answer.Answer.{Answer}
use Rattle.office_store.specs.declared.fault.Fault.{Fault}
use Rattle.office_desk.specs.Resuming.{AreRunSteps}
use Rattle.office_json.specs.Lists.{NoActs, acts_in}
use Rattle.office_http.specs.Receiving.{OfficeRequest, acts, requested, office_request}
use Rattle.office_http.specs.Replies.{Response, error_response, response_text, status_number}
use Rattle.office_http.specs.RequestPlans.{is_head_method}
use Rattle.office_http.specs.Requests.{Request, IsRequest, nothing, headless, asks}
use Rattle.office_http.specs.declared.path_request.PathRequest.TheVariants as path
use Rattle.office_http.specs.declared.request_error.RequestError.TheVariants as error
use Rattle.office_wire.specs.Replies.{fault_response, stopped_response}
use Rattle.office_wire.specs.Sessions.{IsAnswer, after_resumed}
use Rattle.office_wire.specs.Sources.{Sent}
use Rattle.office_wire.specs.declared.request_list.SentAnswer.{SentAnswer}

-- ---- the acts of a request

-- the acts that are read of a body; none if it is no list of acts
abbrev pub acts_read : Result (List Act) NoActs → List Act
acts_read (Ok all) = all
acts_read (Err why) = []

-- steps that lead to the end of the open run; if no run is open, they change nothing
abbrev pub AreStepsToEnd : State → List Act → Type 0
AreStepsToEnd s done = AreRunSteps done × (after s done ≡ after_resumed s (open_run s.office))

-- all acts of what is requested: those of a body; of a resumption the steps to the end of the run; else none
abbrev pub AreAllActs : State → OfficeRequest → List Act → Type 0
AreAllActs s (acts body) done = done ≡ acts_read (acts_in body)
AreAllActs s (requested path.Resume) done = AreStepsToEnd s done
AreAllActs s _ done = done ≡ []

-- a response reports a fault behind the answers to some first acts: these were done, and at most one more
pub record AreReported (s : State) (all : List Act) (r : Response) (done : List Act) : Type 0 where
  pub replies : List Answer
  pub fault : Fault
  pub response : r ≡ stopped_response replies fault
  pub answered : replies ≡ answers s (take (length replies) all)
  pub done_so : (done ≡ take (length replies) all) ⊎ (done ≡ take (length replies + 1) all)

-- some first acts of these
abbrev pub AreFirst : List Act → List Act → Type 0
AreFirst all done = (n : ℕ) × (n ≤ length all) × (done ≡ take n all)

-- a response reports a fault, or lack of memory
abbrev pub IsFaultReport : Response → Type 0
IsFaultReport r = ((f : Fault) × (r ≡ fault_response f)) ⊎ (r ≡ error_response error.Memory)

-- some first acts of what is requested, by the response that reports a fault or lack of memory after them
abbrev pub AreSomeActs : State → OfficeRequest → Response → List Act → Type 0
AreSomeActs s (acts body) r done =
    AreReported s (acts_read (acts_in body)) r done
    ⊎ ((r ≡ error_response error.Memory) × AreFirst (acts_read (acts_in body)) done)
AreSomeActs s (requested path.Resume) r done = IsFaultReport r × AreRunSteps done
AreSomeActs s _ r done = IsFaultReport r × (done ≡ [])

-- the same of a request
abbrev pub AreAllActsOf : State → Request → List Act → Type 0
AreAllActsOf s nothing done = done ≡ []
AreAllActsOf s headless done = done ≡ []
AreAllActsOf s (asks h rest) done = AreAllActs s (office_request h rest) done

abbrev pub AreSomeActsOf : State → Request → Response → List Act → Type 0
AreSomeActsOf s nothing r done = ⊥
AreSomeActsOf s headless r done = ⊥
AreSomeActsOf s (asks h rest) r done = AreSomeActs s (office_request h rest) r done

-- ---- its response

-- a response that its bytes and the state determine: it reports no fault and no lack of memory
abbrev pub IsDetermined : State → Request → Response → Type 0
IsDetermined s nothing r = ⊥
IsDetermined s headless r = r ≡ error_response error.Head
IsDetermined s (asks h rest) r = IsAnswer s (office_request h rest) r

-- its head alone is written to HEAD
abbrev pub is_head_of : Request → Bool
is_head_of nothing = false
is_head_of headless = false
is_head_of (asks h rest) = is_head_method h.method

-- a response went out whole, with its status
abbrev pub whole : Bool → Response → Sent
whole is_head r = record { bytes = response_text is_head r; status = Ok (status_number r.status) }

-- its first bytes went out, or none
abbrev pub AreFirstBytes : List ℕ → List ℕ → Type 0
AreFirstBytes text out = (n : ℕ) × (n ≤ length text) × (out ≡ take n text)

-- it went out whole, or the connection failed after its first bytes
abbrev pub GoesOut : Bool → Response → Sent → Type 0
GoesOut is_head r it = MatchResult it.status (λ code. it ≡ whole is_head r) (λ e. AreFirstBytes (response_text is_head r) it.bytes)

-- ---- both

-- what went out on a connection
abbrev pub sent_as : SentAnswer → Sent
sent_as it = record { bytes = it.bytes.items; status = it.status }

-- a response went out whole, and it is no 503
abbrev pub IsWhole : Sent → Type 0
IsWhole it = IsOkAnd it.status (λ code. code ≢ 503)

-- the response to a request went out whole; a connection without a byte gets none
abbrev pub IsWholeOf : State → Request → Sent → Type 0
IsWholeOf s nothing it = it ≡ record { bytes = []; status = Ok 0 }
IsWholeOf s request it = (r : Response) × IsDetermined s request r × (it ≡ whole (is_head_of request) r)

-- a request was answered: the response that its bytes determine went out whole, and all its acts were done
pub record IsAnswered (s : State) (bytes : List ℕ) (it : Sent) (done : List Act) : Type 0 where
  pub request : Request
  pub is : IsRequest request bytes
  pub response : IsWholeOf s request it
  pub acts : AreAllActsOf s request done

-- its response was cut: all its acts were done, and first bytes of the response that its bytes determine went out
pub record IsCut (s : State) (bytes : List ℕ) (it : Sent) (done : List Act) : Type 0 where
  pub request : Request
  pub is : IsRequest request bytes
  pub response : Response
  pub determined : IsDetermined s request response
  pub out : AreFirstBytes (response_text (is_head_of request) response) it.bytes
  pub acts : AreAllActsOf s request done

-- a fault or lack of memory came in its way: some of its first acts were done, and a response that reports this went out,
-- or first bytes of it
pub record IsFaulted (s : State) (bytes : List ℕ) (it : Sent) (done : List Act) : Type 0 where
  pub request : Request
  pub is : IsRequest request bytes
  pub response : Response
  pub out : GoesOut (is_head_of request) response it
  pub acts : AreSomeActsOf s request response done

-- no byte of it was read, for lack of memory
abbrev pub IsUnread : Sent → List Act → Type 0
IsUnread it done = (done ≡ []) × GoesOut false (error_response error.Memory) it

-- a request was served, but its response did not go out whole, or was a 503
pub record IsUnanswered (s : State) (bytes : List ℕ) (it : Sent) (done : List Act) : Type 0 where
  pub part : IsWhole it → ⊥
  pub served : IsCut s bytes it done ⊎ (IsFaulted s bytes it done ⊎ IsUnread it done)
