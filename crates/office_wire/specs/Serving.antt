-- One request and its answer. Source: own; requests and the form of answers are those of RFC 9112.
use Rattle.std.specs.Prelude.{◌≡◌, ◌⊎◌, ℕ, Bool, false, List, IfErr, IfOk, IfSome, IsSomeAnd, OnErr, Option, Some, None, Result, Err}
use Rattle.std.specs.Io.KnownBytes.{Appends}
use Rattle.httparse.specs.Grammar.{RequestHead}
use Rattle.sqlite_trees.specs.declared.store.Store.{Ghosts}
use Rattle.office_base.specs.Output.{AppendsSome}
use Rattle.office_base.specs.declared.output.Io.{Io}
use Rattle.office_rules.specs.State.{State}
use Rattle.office_desk.specs.Desk.{DeskState}
use Rattle.office_desk.specs.Leaving.{IsAt}
use Rattle.office_http.specs.RequestPlans.{is_head_method}
use Rattle.office_http.specs.declared.request_error.RequestError.{RequestError}
use Rattle.office_wire.specs.declared.exchange.OutgoingReply.{OutgoingReply}
use Rattle.office_http.specs.Replies.{Response, response, error_response, response_text, status_number}
use Rattle.office_http.specs.Requests.{Request, IsRequest, nothing, headless, asks}
use Rattle.office_http.specs.declared.request_error.RequestError.TheVariants as error
use Rattle.office_wire.specs.Answering.{Answers, AnyAnswer, IsUnavailable, RunsOutOfMemory, Serves, TakesMemory, gone_response}
use Rattle.office_wire.specs.Calling.{AnsweredAt, CalledAt}
use Rattle.office_http.specs.Receiving.{HasActs, OfficeRequest, office_request}

-- an answer is written, to HEAD its head alone, and the status is its
abbrev pub Writes : Bool → Response → ℕ → Option (List ℕ) → Option (List ℕ) → Type 0
Writes is_head r status written after =
    Appends written after (response_text is_head r) × (status ≡ status_number r.status)

-- what is requested is served with this answer, or memory ran out for that and is reported
abbrev pub IsServed : {S : Type 0} → Ghosts S → State → OfficeRequest → Response → DeskState S → Type 0
IsServed g t it r desk = Answers g t it r desk ⊎ ((r ≡ error_response error.Memory) × RunsOutOfMemory g t it desk)

-- memory ran out for the body of acts, and that is reported
abbrev pub LacksRoomForBody : RequestHead → Response → Type 0
LacksRoomForBody h r = HasActs h × (r ≡ error_response error.Memory)

-- which answer a request gets, whether to HEAD, and where the desk is then; a connection without a byte gets none
abbrev pub IsReplied : {S : Type 0} → Ghosts S → State → Request → Bool → Response → DeskState S → Type 0
IsReplied g t nothing is_head r desk = ⊥
IsReplied g t headless is_head r desk = (is_head ≡ false) × (r ≡ error_response error.Head) × IsAt g t desk
IsReplied g t (asks h rest) is_head r desk =
    (is_head ≡ is_head_method h.method)
    × (IsServed g t (office_request h rest) r desk ⊎ LacksRoomForBody h r × IsAt g t desk)

-- a connection without a byte: nothing is written, and nothing done
abbrev pub IsSilent : {S : Type 0} → Ghosts S → State → List ℕ → ℕ → Option (List ℕ) → Option (List ℕ) → DeskState S
    → Type 0
IsSilent g t bytes status written after desk =
    IsRequest nothing bytes × (status ≡ 0) × (after ≡ written) × IsAt g t desk

-- the answer to all bytes of a connection: that to their request; or, where memory ran out before a byte was read, the
-- reporting of that
abbrev pub IsReply : {S : Type 0} → Ghosts S → State → List ℕ → Type 0 → Bool → Response → DeskState S → Type 0
IsReply g t bytes unread is_head r desk =
    ((q : Request) × IsRequest q bytes × IsReplied g t q is_head r desk)
    ⊎ (unread × (is_head ≡ false) × (r ≡ error_response error.Memory) × IsAt g t desk)

-- it was written
abbrev pub Replies : {S : Type 0} → Ghosts S → State → List ℕ → Type 0 → ℕ → Option (List ℕ) → Option (List ℕ)
    → DeskState S → Type 0
Replies g t bytes unread status written after desk =
    IsSilent g t bytes status written after desk
    ⊎ ((is_head : Bool) × (r : Response) × IsReply g t bytes unread is_head r desk
    × Writes is_head r status written after)

-- the first bytes of it were written, or none, as where the writer answered an error, and the desk is as if all had been
abbrev pub Breaks : {S : Type 0} → Ghosts S → State → List ℕ → Type 0 → Option (List ℕ) → Option (List ℕ) → DeskState S
    → Type 0
Breaks g t bytes unread written after desk =
    (is_head : Bool) × (r : Response) × IsReply g t bytes unread is_head r desk
    × AppendsSome written after (response_text is_head r)

-- ---- a poisoned desk

-- which answer a request gets from it, whether to HEAD; of what takes memory, lack of it may be reported in its place
abbrev pub IsGoneServed : OfficeRequest → Response → Type 0
IsGoneServed it r = (r ≡ gone_response it) ⊎ (r ≡ error_response error.Memory) × TakesMemory it

abbrev pub IsGoneReplied : Request → Bool → Response → Type 0
IsGoneReplied nothing is_head r = ⊥
IsGoneReplied headless is_head r = (is_head ≡ false) × (r ≡ error_response error.Head)
IsGoneReplied (asks h rest) is_head r =
    (is_head ≡ is_head_method h.method) × (IsGoneServed (office_request h rest) r ⊎ LacksRoomForBody h r)

-- its answer to all bytes of a connection
abbrev pub IsGoneReply : List ℕ → Type 0 → Bool → Response → Type 0
IsGoneReply bytes unread is_head r =
    ((q : Request) × IsRequest q bytes × IsGoneReplied q is_head r)
    ⊎ (unread × (is_head ≡ false) × (r ≡ error_response error.Memory))

-- it was written; a connection without a byte gets none
abbrev pub GoneReplies : List ℕ → Type 0 → ℕ → Option (List ℕ) → Option (List ℕ) → Type 0
GoneReplies bytes unread status written after =
    (IsRequest nothing bytes × (status ≡ 0) × (after ≡ written))
    ⊎ ((is_head : Bool) × (r : Response) × IsGoneReply bytes unread is_head r × Writes is_head r status written after)

-- ---- whatever came

-- the desk is where serving something may leave it
abbrev pub LeavesServed : {S : Type 0} → Ghosts S → State → DeskState S → Type 0
LeavesServed g t desk = (it : OfficeRequest) × Serves AnyAnswer g t it desk

-- ---- what the code sends

-- an answer from fixed bytes is to be written
abbrev pub IsFailed : RequestError → Bool → Option OutgoingReply → Type 0
IsFailed why is_head sending =
    IsSomeAnd sending (λ it. (response it.reply ≡ error_response why) × (it.is_head ≡ is_head))

-- what is to be written is the answer to all bytes of a connection
abbrev pub IsToSend : {S : Type 0} → Ghosts S → State → List ℕ → Type 0 → Option OutgoingReply → DeskState S → Type 0
IsToSend g t bytes unread None desk = IsRequest nothing bytes × IsAt g t desk
IsToSend g t bytes unread (Some it) desk = IsReply g t bytes unread it.is_head (response it.reply) desk

-- what is to be written is the answer of a poisoned desk
abbrev pub IsGoneToSend : List ℕ → Type 0 → Option OutgoingReply → Type 0
IsGoneToSend bytes unread None = IsRequest nothing bytes
IsGoneToSend bytes unread (Some it) = IsGoneReply bytes unread it.is_head (response it.reply)

-- what is to be written reports a fault, or lack of memory
abbrev pub ReportsUnavailable : Option OutgoingReply → Type 0
ReportsUnavailable sending = IsSomeAnd sending (λ it. IsUnavailable (response it.reply))

-- it was written, and the status is its
abbrev pub IsSent : Option OutgoingReply → ℕ → Option (List ℕ) → Option (List ℕ) → Type 0
IsSent None status written after = (status ≡ 0) × (after ≡ written)
IsSent (Some it) status written after = Writes it.is_head (response it.reply) status written after

-- the first bytes of it were written, or none; where nothing is to be written, nothing fails
abbrev pub IsSomeSent : Option OutgoingReply → Option (List ℕ) → Option (List ℕ) → Type 0
IsSomeSent sending written after =
    IsSomeAnd sending (λ it. AppendsSome written after (response_text it.is_head (response it.reply)))

-- so the half of serving after it ends
pub record Sends (sending : Option OutgoingReply) (status : Result ℕ Io) (written after : Option (List ℕ)) : Type 0
  where
    pub ok : IfOk status (λ code. IsSent sending code written after)
    pub err : OnErr status (IsSomeSent sending written after)

-- ---- calls at a desk

-- what is requested was done, and this is the answer
abbrev pub HasReply : {S : Type 0} → Ghosts S → OfficeRequest → Response → DeskState S → DeskState S → Type 0
HasReply g request r old new =
    AnsweredAt g old new (λ t. IsServed g t request r new) (IsGoneServed request r) (IsUnavailable r)

-- from a state: where the reader reports its bytes, what is to be written is the answer to all of them; and the desk is
-- where serving may leave it
pub record IsNextReady {S : Type 0} (g : Ghosts S) (t : State) (all : Option (List ℕ)) (unread : Type 0)
    (next : Result (Option OutgoingReply) Io) (desk : DeskState S) : Type 0 where
  pub ok : IfOk next (λ it. IfSome all (λ bytes. IsToSend g t bytes unread it desk))
  pub leaves : LeavesServed g t desk

-- the half of serving before a byte is written; at 503 alone the desk may be poisoned by it
abbrev pub AnswersNext : {R S : Type 0} → Ghosts S → (R → Option (List ℕ)) → (reader left : R)
    → Result (Option OutgoingReply) Io → (old new : DeskState S) → Type 0
AnswersNext g all reader left next old new =
    AnsweredAt g old new (λ t. IsNextReady g t (all reader) (left ≡ reader) next new)
    (IfOk next (λ it. IfSome (all reader) (λ bytes. IsGoneToSend bytes (left ≡ reader) it)))
    (IfOk next (λ it. ReportsUnavailable it))

-- from a state: where the reader reports its bytes, the answer to all of them was written; and the desk is where
-- serving may leave it
pub record IsOneServed {S : Type 0} (g : Ghosts S) (t : State) (all : Option (List ℕ)) (unread : Type 0)
    (status : Result ℕ Io) (written after : Option (List ℕ)) (desk : DeskState S) : Type 0 where
  pub ok : IfOk status (λ code. IfSome all (λ bytes. Replies g t bytes unread code written after desk))
  pub leaves : LeavesServed g t desk

-- where the reader reports its bytes, the answer of a poisoned desk to all of them was written
abbrev pub IsGoneAnswered : Option (List ℕ) → Type 0 → Result ℕ Io → Option (List ℕ) → Option (List ℕ) → Type 0
IsGoneAnswered all unread status written after =
    IfOk status (λ code. IfSome all (λ bytes. GoneReplies bytes unread code written after))

-- one request was served in two halves
pub record InHalves {R W S : Type 0} (g : Ghosts S) (all : R → Option (List ℕ)) (reader left : R)
    (contents : W → Option (List ℕ)) (writer after : W) (status : Result ℕ Io) (old new : DeskState S) : Type 0 where
  -- the first gives what is to be written, for which the desk is already
  pub next : Result (Option OutgoingReply) Io
  pub first : AnswersNext g all reader left next old new
  -- where it fails, nothing was done and nothing written
  pub unserved : IfErr next (λ e. (status ≡ Err e) × (new ≡ old) × (after ≡ writer))
  -- the second writes that, or fails
  pub second : IfOk next (λ it. Sends it status (contents writer) (contents after))
  -- so at an error nothing was done and nothing written, or the desk is as if the answer had been written
  pub err : OnErr status
      (IfSome (all reader)
      (λ bytes. ((new ≡ old) × (after ≡ writer)) ⊎ CalledAt g old new
      (λ t. Breaks g t bytes (left ≡ reader) (contents writer) (contents after) new)))
