-- One request that a proxy states a name for, and its answer. Source: own.
use Rattle.std.specs.Prelude.{◌≡◌, ◌⊎◌, ℕ, Bool, false, List, IfErr, IfOk, IfSome, map, Option, Some, None, Result, Err}
use Rattle.httparse.specs.Spans.{name_and_value}
use Rattle.sqlite_trees.specs.declared.store.Store.{Ghosts}
use Rattle.office_access.specs.Settings.{Settings}
use Rattle.office_base.specs.declared.memory.Memory.{Memory}
use Rattle.office_base.specs.declared.output.Io.{Io}
use Rattle.office_desk.specs.Desk.{DeskState}
use Rattle.office_desk.specs.Leaving.{IsAt}
use Rattle.office_gate.specs.Answering.{Denies, IsRefusedMemory, ServesFor}
use Rattle.office_gate.specs.Replies.{token_response}
use Rattle.office_gate.specs.Stated.{visitor_among}
use Rattle.office_gate.specs.Visitors.{Visitor}
use Rattle.office_gate.specs.declared.gate.Gate.{Gate}
use Rattle.office_http.specs.Receiving.{OfficeRequest, office_request}
use Rattle.office_http.specs.Replies.{Response, error_response, response}
use Rattle.office_http.specs.RequestPlans.{is_head_method}
use Rattle.office_http.specs.Requests.{Request, IsRequest, asks, headless, nothing}
use Rattle.office_http.specs.declared.reply.Reply.{Reply}
use Rattle.office_http.specs.declared.request_error.RequestError.TheVariants as error
use Rattle.office_rules.specs.State.{State}
use Rattle.office_wire.specs.Answering.{AnyAnswer, IsGiven, IsGivenUnavailable, IsUnavailable}
use Rattle.office_wire.specs.Calling.{AnsweredAt}
use Rattle.office_wire.specs.Serving.{ReportsUnavailable, Sends}
use Rattle.office_wire.specs.declared.exchange.OutgoingReply.{OutgoingReply}

-- a request is served for the visitor who is stated; without one it is denied, whatever it asks for
abbrev pub ServesStated : {S : Type 0} → (Response → Type 0) → Ghosts S → State → Option Visitor → OfficeRequest
    → DeskState S → Type 0
ServesStated Reported g t None request desk = Denies Reported g t token_response desk
ServesStated Reported g t (Some v) request desk = ServesFor Reported g v t request desk

-- it was served, whatever the answer; or nothing was done
abbrev pub LeavesStated : {S : Type 0} → Ghosts S → State → Option Visitor → OfficeRequest → DeskState S → Type 0
LeavesStated g t v request desk = ServesStated AnyAnswer g t v request desk ⊎ IsAt g t desk

-- it was served with this answer; or lack of memory is reported
abbrev pub IsStatedServed : {S : Type 0} → Ghosts S → State → Option Visitor → OfficeRequest → Response → DeskState S
    → Type 0
IsStatedServed g t v request r desk =
    ServesStated (λ reported. r ≡ reported) g t v request desk
    ⊎ ((r ≡ error_response error.Memory) × LeavesStated g t v request desk)

-- which answer a request gets, whether to HEAD, and where the desk is then; a connection without a byte gets none
abbrev pub IsStatedReplied : {S : Type 0} → Ghosts S → State → Gate → Request → Bool → Response → DeskState S → Type 0
IsStatedReplied g t gate nothing is_head r desk = ⊥
IsStatedReplied g t gate headless is_head r desk =
    (is_head ≡ false) × (r ≡ error_response error.Head) × IsAt g t desk
IsStatedReplied g t gate (asks h rest) is_head r desk =
    (is_head ≡ is_head_method h.method)
    × IsStatedServed g t (visitor_among gate (map name_and_value h.fields)) (office_request h rest) r desk

-- the answer to all bytes of a connection: that to their request, or the report of lack of memory
abbrev pub IsStatedReply : {S : Type 0} → Ghosts S → State → Gate → List ℕ → Bool → Response → DeskState S → Type 0
IsStatedReply g t gate bytes is_head r desk =
    ((q : Request) × IsRequest q bytes × IsStatedReplied g t gate q is_head r desk)
    ⊎ ((is_head ≡ false) × (r ≡ error_response error.Memory) × IsAt g t desk)

-- what is to be written is the answer to all bytes of a connection
abbrev pub IsStatedToSend : {S : Type 0} → Ghosts S → State → Gate → List ℕ → Option OutgoingReply → DeskState S → Type 0
IsStatedToSend g t gate bytes None desk = IsRequest nothing bytes × IsAt g t desk
IsStatedToSend g t gate bytes (Some it) desk = IsStatedReply g t gate bytes it.is_head (response it.reply) desk

-- whatever came, the desk is where it was, or where serving a visitor under these settings leaves it
abbrev pub LeavesVisited : {S : Type 0} → Ghosts S → State → Settings → DeskState S → Type 0
LeavesVisited g t settings desk =
    IsAt g t desk
    ⊎ ((v : Option Visitor) × IfSome v (λ it. it.settings ≡ settings) × (request : OfficeRequest) × (r : Response)
    × IsStatedServed g t v request r desk)

-- from a state: if the reader reports its bytes, what is to be written is the answer to all of them; and the desk is
-- where serving a visitor may leave it
pub record IsStatedNext {S : Type 0} (g : Ghosts S) (t : State) (gate : Gate) (all : Option (List ℕ))
    (next : Result (Option OutgoingReply) Io) (desk : DeskState S) : Type 0 where
  pub ok : IfOk next (λ it. IfSome all (λ bytes. IsStatedToSend g t gate bytes it desk))
  pub leaves : LeavesVisited g t gate.policy desk

-- the half of serving before a byte is written; at 503 alone the desk may be poisoned by it
abbrev pub AnswersStated : {S : Type 0} → Ghosts S → Gate → Option (List ℕ) → Result (Option OutgoingReply) Io
    → (old new : DeskState S) → Type 0
AnswersStated g gate all next old new =
    AnsweredAt g old new (λ t. IsStatedNext g t gate all next new) (Unit {0}) (IfOk next (λ it. ReportsUnavailable it))

-- one request was served in two halves: the first gives what is to be written, for which the desk is already, and if it
-- fails, nothing was done and nothing written; the second writes that, or fails
pub record IsVisitServed {W S : Type 0} (g : Ghosts S) (gate : Gate) (all : Option (List ℕ))
    (contents : W → Option (List ℕ)) (writer after : W) (status : Result ℕ Io) (old new : DeskState S) : Type 0 where
  pub next : Result (Option OutgoingReply) Io
  pub first : AnswersStated g gate all next old new
  pub unserved : IfErr next (λ e. (status ≡ Err e) × (new ≡ old) × (after ≡ writer))
  pub second : IfOk next (λ it. Sends it status (contents writer) (contents after))

-- ---- calls at a desk

-- at a state it was served with the answer that was given; or memory ran out before anything was done
abbrev pub IsGivenStated : {S : Type 0} → Ghosts S → State → Option Visitor → OfficeRequest → Result Reply Memory
    → DeskState S → Type 0
IsGivenStated g t v request given desk =
    ServesStated (IsGiven given) g t v request desk ⊎ IsRefusedMemory g t given desk

abbrev pub IsAnsweredStated : {S : Type 0} → Ghosts S → Option Visitor → OfficeRequest → Result Reply Memory
    → DeskState S → DeskState S → Type 0
IsAnsweredStated g v request given old new =
    AnsweredAt g old new (λ t. IsGivenStated g t v request given new) (Unit {0}) (IsGivenUnavailable given)

-- the same, with the answer that is given in any case
abbrev pub HasStatedReply : {S : Type 0} → Ghosts S → Option Visitor → OfficeRequest → Response → DeskState S
    → DeskState S → Type 0
HasStatedReply g v request r old new =
    AnsweredAt g old new (λ t. IsStatedServed g t v request r new) (Unit {0}) (IsUnavailable r)
