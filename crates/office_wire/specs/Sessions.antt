-- A session: the requests that an office is sent, one after another, and nothing else. It is the fold of its requests.
-- Source: own.
use Rattle.std.specs.FinMap.{get}
use Rattle.std.specs.Prelude.{◌≡◌, ◌≢◌, ℕ, ℤ, false, List, [], ◌∷◌, fold, map, IsOkAnd, Option, Some, None, Result, Ok, Err}
use Rattle.std.specs.List.{AllByRecursion}
use Rattle.sqlite.specs.Held.{state}
use Rattle.sqlite.specs.State.{HasCleanDisk}
use Rattle.sqlite_trees.specs.declared.store.Store.{Ghosts}
use Rattle.office_rules.specs.Acts.{after, answers}
use Rattle.office_rules.specs.Readings.{ending_entry, record_view}
use Rattle.office_rules.specs.Registers.{AreDueRows, AreOverdueRows, DueRowView}
use Rattle.office_rules.specs.Runs.{open_run, whole}
use Rattle.office_rules.specs.State.{State}
use Rattle.office_rules.specs.declared.act.Act.{Act}
use Rattle.office_desk.specs.Desk.{DeskState}
use Rattle.office_desk.specs.Leaving.{IsAt}
use Rattle.office_desk.specs.Resuming.{resumed_answer}
use Rattle.office_json.specs.Lists.{NoActs, not_json, bad_act, acts_in}
use Rattle.office_http.specs.Receiving.{OfficeRequest, acts, cut, refused, requested, office_request}
use Rattle.office_http.specs.Replies.{Response, check_response, error_response, response_text}
use Rattle.office_http.specs.RequestPlans.{is_head_method}
use Rattle.office_http.specs.Requests.{Request, IsRequest, nothing, headless, asks}
use Rattle.office_http.specs.declared.request_error.RequestError.TheVariants as error
use Rattle.office_http.specs.declared.path_request.PathRequest.TheVariants as path
use Rattle.office_wire.specs.Replies.{acts_response, answer_response, bad_act_response, certificate_response, content_response, due_response, overdue_response, record_response}
use Rattle.office_wire.specs.Sources.{Sent}
use Rattle.office_wire.specs.Exchanges.{AreExchanged}

-- ---- where a request leads

-- acts lead to the state after them; bytes that ask for none change nothing
abbrev pub after_asked : State → Result (List Act) NoActs → State
after_asked s (Ok done) = after s done
after_asked s (Err why) = s

-- a resumption leads to the whole of the open run
abbrev pub after_resumed : State → Option ℕ → State
after_resumed s None = s
after_resumed s (Some run) = whole s run

-- what is requested leads there: acts and a resumption change an office, and nothing else does
abbrev pub after_office_request : State → OfficeRequest → State
after_office_request s (refused check) = s
after_office_request s cut = s
after_office_request s (acts body) = after_asked s (acts_in body)
after_office_request s (requested path.Resume) = after_resumed s (open_run s.office)
after_office_request s (requested (path.Record r)) = s
after_office_request s (requested (path.Content r)) = s
after_office_request s (requested (path.Due day)) = s
after_office_request s (requested (path.Overdue day n)) = s
after_office_request s (requested (path.Certificate run)) = s

abbrev pub after_request : State → Request → State
after_request s nothing = s
after_request s headless = s
after_request s (asks h rest) = after_office_request s (office_request h rest)

-- requests lead there, one after another
abbrev pub after_requests : State → List Request → State
after_requests s requests = fold after_request s requests

-- ---- how it is answered

abbrev pub acts_answer : State → Result (List Act) NoActs → Response
acts_answer s (Ok done) = acts_response (answers s done)
acts_answer s (Err not_json) = error_response error.Json
acts_answer s (Err (bad_act place why)) = bad_act_response place why

abbrev pub record_answer : State → Option ℕ → Response
record_answer s None = error_response error.Record
record_answer s (Some r) = record_response (record_view s.office r) (ending_entry s.office r)

abbrev pub content_answer : State → Option ℕ → Response
content_answer s None = error_response error.Content
content_answer s (Some r) = content_response (get s.contents r)

abbrev pub certificate_answer : State → Option ℕ → Response
certificate_answer s None = error_response error.Certificate
certificate_answer s (Some run) = certificate_response (get s.office.certificates run)

abbrev pub IsDueAnswer : State → Option ℤ → Response → Type 0
IsDueAnswer s None r = r ≡ error_response error.Day
IsDueAnswer s (Some day) r = (rows : List DueRowView) × AreDueRows s.office day rows × (r ≡ due_response rows)

-- of a bad day and a bad count the day is reported
abbrev pub IsOverdueAnswer : State → Option ℤ → Option ℕ → Response → Type 0
IsOverdueAnswer s None count r = r ≡ error_response error.Day
IsOverdueAnswer s (Some day) None r = r ≡ error_response error.Count
IsOverdueAnswer s (Some day) (Some n) r =
    (rows : List DueRowView) × AreOverdueRows s.office day n rows × (r ≡ overdue_response n rows)

-- what is requested of an office at a state has this answer, if no fault and no lack of memory is reported
abbrev pub IsAnswer : State → OfficeRequest → Response → Type 0
IsAnswer s (refused check) r = r ≡ check_response check
IsAnswer s cut r = r ≡ error_response error.Body
IsAnswer s (acts body) r = r ≡ acts_answer s (acts_in body)
IsAnswer s (requested path.Resume) r = r ≡ answer_response (resumed_answer (open_run s.office))
IsAnswer s (requested (path.Record number)) r = r ≡ record_answer s number
IsAnswer s (requested (path.Content number)) r = r ≡ content_answer s number
IsAnswer s (requested (path.Due day)) r = IsDueAnswer s day r
IsAnswer s (requested (path.Overdue day n)) r = IsOverdueAnswer s day n r
IsAnswer s (requested (path.Certificate run)) r = r ≡ certificate_answer s run

-- a request of an office at a state is answered by these bytes; a connection without a byte gets none
abbrev pub IsAnsweredBy : State → Request → List ℕ → Type 0
IsAnsweredBy s nothing bytes = bytes ≡ []
IsAnsweredBy s headless bytes = bytes ≡ response_text false (error_response error.Head)
IsAnsweredBy s (asks h rest) bytes =
    (r : Response) × IsAnswer s (office_request h rest) r × (bytes ≡ response_text (is_head_method h.method) r)

-- ---- a session

-- these bytes came, all of one connection after all of another, and are these requests
abbrev pub AreRequests : List Request → List (List ℕ) → Type 0
AreRequests [] [] = Unit {0}
AreRequests [] (bytes ∷ more) = ⊥
AreRequests (q ∷ rest) [] = ⊥
AreRequests (q ∷ rest) (bytes ∷ more) = IsRequest q bytes × AreRequests rest more

-- requests are answered one after another, each at the state to which those before it led
abbrev pub AreAnsweredBy : State → List Request → List (List ℕ) → Type 0
AreAnsweredBy s [] [] = Unit {0}
AreAnsweredBy s [] (bytes ∷ more) = ⊥
AreAnsweredBy s (q ∷ rest) [] = ⊥
AreAnsweredBy s (q ∷ rest) (bytes ∷ more) = IsAnsweredBy s q bytes × AreAnsweredBy (after_request s q) rest more

-- from one state to another: these bytes came, and these went out
pub record IsSession (s : State) (came sent : List (List ℕ)) (u : State) : Type 0 where
  pub requests : List Request
  pub are : AreRequests requests came
  pub answered : AreAnsweredBy s requests sent
  pub leads : u ≡ after_requests s requests

-- ---- desks

-- each connection got its whole answer, and none by 503
abbrev pub AreWellAnswered : List Sent → Type 0
AreWellAnswered sent = AllByRecursion (λ it. IsOkAnd it.status (λ code. code ≢ 503)) sent

-- a desk at a state was sent these bytes and nothing else, over a clean disk, and gave each connection its whole answer,
-- none by 503
pub record Attends {S : Type 0} (g : Ghosts S) (s : State) (came : List (List ℕ)) (sent : List Sent)
    (old new : DeskState S) : Type 0 where
  pub clean : HasCleanDisk (state g new.connection)
  pub began : IsAt g s old
  pub exchanged : AreExchanged g old came sent new
  pub well : AreWellAnswered sent

abbrev pub bytes_of : List Sent → List (List ℕ)
bytes_of sent = map (λ it. it.bytes) sent

-- sessions of offices
pub record OneSession {S : Type 0} (g : Ghosts S) : Type 0 where
  -- a desk that was sent bytes is at the state to which their requests lead, and what went out is the answers
  pub answered : (s : State) (came : List (List ℕ)) (sent : List Sent) (old new : DeskState S)
      → Attends g s came sent old new → (u : State) × IsSession s came (bytes_of sent) u × IsAt g u new
  -- the bytes that came determine those that went out, and the state
  pub determined : (s u v : State) (came sent other_sent : List (List ℕ)) → IsSession s came sent u
      → IsSession s came other_sent v → (sent ≡ other_sent) × (u ≡ v)
  -- so offices at one state that were sent the same bytes wrote the same bytes and are at one state
  pub alike : (s : State) (came : List (List ℕ)) (sent other_sent : List Sent)
      (old one other_old other : DeskState S)
      → Attends g s came sent old one → Attends g s came other_sent other_old other
      → (bytes_of sent ≡ bytes_of other_sent) × ((u : State) × IsAt g u one × IsAt g u other)
