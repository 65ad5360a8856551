-- The answer to a request that was received.
use Rattle.std.proofs.Common.{◌≡◌, ◌⊎◌, ◌∙◌, ap, refl, subst, sym, inl, inr, ℕ, Bool, false, List, Option, Some, None, Result, Ok, Err}
use Rattle.std.specs.Prelude.{IfOk, IfSome}
use Rattle.std.proofs.lemmas.Result.{IfOk-weaker}
use Rattle.httparse.specs.Grammar.{RequestHead}
use Rattle.sqlite_trees.specs.declared.store.Store.{Ghosts}
use Rattle.office_rules.specs.State.{State}
use Rattle.office_desk.specs.Desk.{DeskState}
use Rattle.office_desk.specs.Leaving.{IsAt}
use Rattle.office_http.specs.RequestPlans.{is_head_method}
use Rattle.office_http.specs.Replies.{Response, response, status_number}
use Rattle.office_http.specs.Requests.{IsRequest, asks, headless}
use Rattle.office_http.specs.declared.request_error.RequestError.TheVariants as error
use Rattle.office_http.specs.declared.status.Status.{Status}
use Rattle.office_http.proofs.PostedActs.{acts_are_no_head}
use Rattle.office_base.specs.declared.output.Io.{Io}
use Rattle.office_wire.specs.Calling.{AnsweredAt, CalledAt}
use Rattle.office_http.specs.Receiving.{HasActs, IsParsedFrom, IsReceived, IsOutOfMemory, OfficeRequest, request_of_kind, cut}
use Rattle.office_wire.specs.Serving.{AnswersNext, Breaks, GoneReplies, HasReply, InHalves, IsFailed, IsGoneAnswered, IsGoneReply, IsGoneServed, IsGoneToSend, IsNextReady, IsOneServed, IsReply, IsSent, IsServed, IsSomeSent, IsToSend, Replies, Sends, ReportsUnavailable}
use Rattle.office_http.specs.declared.request.ParsedRequest.{ParsedRequest}
use Rattle.office_http.specs.declared.request.Received.TheVariants as received
use Rattle.office_http.specs.declared.request.ReceiveStop.TheVariants as stop
use Rattle.office_wire.specs.declared.exchange.OutgoingReply.{OutgoingReply}
use Rattle.office_wire.proofs.AnyAnswer.{served_leaves}
use Rattle.office_wire.proofs.Calls.{answered, called, not_answered}

pub some_more : {A : Type 0} (o : Option A) (P Q : A → Type 0) → IfSome o P → ((a : A) → P a → Q a) → IfSome o Q
some_more None P Q it more = tt
some_more (Some a) P Q it more = more a it

some_trivial : {A : Type 0} (o : Option A) → IfSome o (λ a. Unit {0})
some_trivial None = tt
some_trivial (Some a) = tt

pub request_reply : {S : Type 0} (g : Ghosts S) (t : State) (bytes : List ℕ) (unread : Type 0) (h : RequestHead) (rest : List ℕ) (it : ParsedRequest) (is_head : Bool) (r : Response) (desk : DeskState S)
    → IsRequest (asks h rest) bytes → IsParsedFrom h rest it → is_head ≡ it.is_head → IsServed g t (request_of_kind it.kind) r desk → IsReply g t bytes unread is_head r desk
request_reply g t bytes unread h rest it is_head r desk request by same served =
    inl (asks h rest, request, (same ∙ by.is_head, inl (subst (λ (w : OfficeRequest). IsServed g t w r desk) by.request served)))

-- acts are not asked for by HEAD
no_head : (h : RequestHead) (is_head : Bool) → HasActs h → is_head ≡ false → is_head ≡ is_head_method h.method
no_head h is_head has is = is ∙ sym (acts_are_no_head h has.0 has.1)

out_of_memory_reply : {S : Type 0} (g : Ghosts S) (t : State) (bytes : List ℕ) (unread : Type 0) (h : RequestHead) (rest : List ℕ) (it : Option OutgoingReply) (desk : DeskState S)
    → IsRequest (asks h rest) bytes → HasActs h → IsFailed error.Memory false it → IsAt g t desk → IsToSend g t bytes unread it desk
out_of_memory_reply g t bytes unread h rest None desk request has failed represents = absurd failed
out_of_memory_reply g t bytes unread h rest (Some it) desk request has failed represents =
    inl (asks h rest, request, (no_head h it.is_head has failed.1, inr ((has, failed.0), represents)))

-- from a poisoned desk
pub request_gone : (bytes : List ℕ) (unread : Type 0) (h : RequestHead) (rest : List ℕ) (it : ParsedRequest) (is_head : Bool) (r : Response)
    → IsRequest (asks h rest) bytes → IsParsedFrom h rest it → is_head ≡ it.is_head → IsGoneServed (request_of_kind it.kind) r → IsGoneReply bytes unread is_head r
request_gone bytes unread h rest it is_head r request by same served =
    inl (asks h rest, request, (same ∙ by.is_head, inl (subst (λ (w : OfficeRequest). IsGoneServed w r) by.request served)))

out_of_memory_gone : (bytes : List ℕ) (unread : Type 0) (h : RequestHead) (rest : List ℕ) (it : Option OutgoingReply)
    → IsRequest (asks h rest) bytes → HasActs h → IsFailed error.Memory false it → IsGoneToSend bytes unread it
out_of_memory_gone bytes unread h rest None request has failed = absurd failed
out_of_memory_gone bytes unread h rest (Some it) request has failed =
    inl (asks h rest, request, (no_head h it.is_head has failed.1, inr (has, failed.0)))

-- what was to be written is written
sent_reply : {S : Type 0} (g : Ghosts S) (t : State) (bytes : List ℕ) (unread : Type 0) (it : Option OutgoingReply) (status : ℕ) (written after : Option (List ℕ)) (desk : DeskState S)
    → IsToSend g t bytes unread it desk → IsSent it status written after → Replies g t bytes unread status written after desk
sent_reply g t bytes unread None status written after desk request sent = inl (request.0, sent.0, sent.1, request.1)
sent_reply g t bytes unread (Some it) status written after desk request sent = inr (it.is_head, response it.reply, request, sent)

sent_gone : (bytes : List ℕ) (unread : Type 0) (it : Option OutgoingReply) (status : ℕ) (written after : Option (List ℕ)) → IsGoneToSend bytes unread it → IsSent it status written after → GoneReplies bytes unread status written after
sent_gone bytes unread None status written after request sent = inl (request, sent.0, sent.1)
sent_gone bytes unread (Some it) status written after request sent = inr (it.is_head, response it.reply, request, sent)

pub sent_unavailable : (it : Option OutgoingReply) (status : ℕ) (written after : Option (List ℕ)) → ReportsUnavailable it → IsSent it status written after → status ≡ 503
sent_unavailable None status written after reported sent = absurd reported
sent_unavailable (Some it) status written after reported sent = sent.1 ∙ ap (λ (s : Status). status_number s) reported

-- ---- the half before it

module _ {S : Type 0} (g : Ghosts S) (all : Option (List ℕ)) (unread : Type 0) where
  -- nothing was done at the desk, and this is to be written
  unchanged : (desk : DeskState S) (next : Option OutgoingReply) (Came : List ℕ → Type 0) → IfSome all Came → ((t : State) (bytes : List ℕ) → IsAt g t desk → Came bytes → IsToSend g t bytes unread next desk)
      → ((bytes : List ℕ) → Came bytes → IsGoneToSend bytes unread next)
      → AnsweredAt g desk desk (λ t. IsNextReady g t all unread (Ok next) desk) (IfSome all (λ bytes. IsGoneToSend bytes unread next)) (ReportsUnavailable next)
  unchanged desk next Came came to gone =
      not_answered g desk (λ t. IsNextReady g t all unread (Ok next) desk) (IfSome all (λ bytes. IsGoneToSend bytes unread next)) (ReportsUnavailable next)
      (λ t at. record { ok = some_more all Came (λ bytes. IsToSend g t bytes unread next desk) came (λ bytes it. to t bytes at it); leaves = (cut, (tt, at)) })
      (some_more all Came (λ bytes. IsGoneToSend bytes unread next) came gone)

  pub silent_next : (desk : DeskState S) → IfSome all (λ bytes. IsReceived received.Nothing bytes)
      → AnsweredAt g desk desk (λ t. IsNextReady g t all unread (Ok None) desk) (IfSome all (λ bytes. IsGoneToSend bytes unread None)) (ReportsUnavailable None)
  silent_next desk came = unchanged desk None (λ bytes. IsReceived received.Nothing bytes) came (λ t bytes at it. (it, at)) (λ bytes it. it)

  headless_to : (t : State) (desk : DeskState S) (next : Option OutgoingReply) (bytes : List ℕ) → IsFailed error.Head false next → IsAt g t desk → IsRequest headless bytes → IsToSend g t bytes unread next desk
  headless_to t desk None bytes failed at it = absurd failed
  headless_to t desk (Some sent) bytes failed at it = inl (headless, it, (failed.1, failed.0, at))

  headless_gone : (next : Option OutgoingReply) (bytes : List ℕ) → IsFailed error.Head false next → IsRequest headless bytes → IsGoneToSend bytes unread next
  headless_gone None bytes failed it = absurd failed
  headless_gone (Some sent) bytes failed it = inl (headless, it, (failed.1, failed.0))

  pub headless_next : (desk : DeskState S) (next : Option OutgoingReply) → IsFailed error.Head false next → IfSome all (λ bytes. IsReceived received.Headless bytes)
      → AnsweredAt g desk desk (λ t. IsNextReady g t all unread (Ok next) desk) (IfSome all (λ bytes. IsGoneToSend bytes unread next)) (ReportsUnavailable next)
  headless_next desk next failed came =
      unchanged desk next (λ bytes. IsReceived received.Headless bytes) came (λ t bytes at it. headless_to t desk next bytes failed at it) (λ bytes it. headless_gone next bytes failed it)

  unread_to : (t : State) (desk : DeskState S) (next : Option OutgoingReply) (bytes : List ℕ) → unread → IsFailed error.Memory false next → IsAt g t desk → IsToSend g t bytes unread next desk
  unread_to t desk None bytes is failed at = absurd failed
  unread_to t desk (Some sent) bytes is failed at = inr (is, failed.1, failed.0, at)

  unread_gone : (next : Option OutgoingReply) (bytes : List ℕ) → unread → IsFailed error.Memory false next → IsGoneToSend bytes unread next
  unread_gone None bytes is failed = absurd failed
  unread_gone (Some sent) bytes is failed = inr (is, failed.1, failed.0)

  -- memory ran out before a byte was read
  pub unread_next : (desk : DeskState S) (next : Option OutgoingReply) → unread → IsFailed error.Memory false next → IfSome all (λ bytes. IsOutOfMemory stop.Memory bytes)
      → AnsweredAt g desk desk (λ t. IsNextReady g t all unread (Ok next) desk) (IfSome all (λ bytes. IsGoneToSend bytes unread next)) (ReportsUnavailable next)
  unread_next desk next is failed came =
      unchanged desk next (λ bytes. IsOutOfMemory stop.Memory bytes) came (λ t bytes at it. unread_to t desk next bytes is failed at) (λ bytes it. unread_gone next bytes is failed)

  -- or for the routes, before the reader was asked for a byte
  pub unrouted_next : (desk : DeskState S) (next : Option OutgoingReply) → unread → IsFailed error.Memory false next
      → AnsweredAt g desk desk (λ t. IsNextReady g t all unread (Ok next) desk) (IfSome all (λ bytes. IsGoneToSend bytes unread next)) (ReportsUnavailable next)
  unrouted_next desk next is failed =
      unchanged desk next (λ bytes. Unit {0}) (some_trivial all) (λ t bytes at it. unread_to t desk next bytes is failed at) (λ bytes it. unread_gone next bytes is failed)

  -- or for the body of acts
  pub out_of_memory_next : (desk : DeskState S) (next : Option OutgoingReply) → IsFailed error.Memory false next → IfSome all (λ bytes. IsOutOfMemory stop.MemoryForBody bytes)
      → AnsweredAt g desk desk (λ t. IsNextReady g t all unread (Ok next) desk) (IfSome all (λ bytes. IsGoneToSend bytes unread next)) (ReportsUnavailable next)
  out_of_memory_next desk next failed came =
      unchanged desk next (λ bytes. IsOutOfMemory stop.MemoryForBody bytes) came
      (λ t bytes at it. out_of_memory_reply g t bytes unread it.0 it.1 next desk it.2 it.3 failed at) (λ bytes it. out_of_memory_gone bytes unread it.0 it.1 next it.2 it.3 failed)

  -- a request was answered
  pub request_next : (old new : DeskState S) (request : ParsedRequest) (sent : OutgoingReply) → IfSome all (λ bytes. IsReceived (received.Request request) bytes) → sent.is_head ≡ request.is_head → HasReply g (request_of_kind request.kind) (response sent.reply) old new
      → AnsweredAt g old new (λ t. IsNextReady g t all unread (Ok (Some sent)) new) (IfSome all (λ bytes. IsGoneToSend bytes unread (Some sent))) (ReportsUnavailable (Some sent))
  request_next old new request sent came same it =
      let r = response sent.reply in
      answered g old new (λ t. IsServed g t (request_of_kind request.kind) r new) (λ t. IsNextReady g t all unread (Ok (Some sent)) new) _ _ _ _ it
      (λ t served.
      record {
        ok = some_more all (λ bytes. IsReceived (received.Request request) bytes) (λ bytes. IsToSend g t bytes unread (Some sent) new) came
            (λ bytes is. request_reply g t bytes unread is.0 is.1 request sent.is_head r new is.2 is.3 same served);
        leaves = served_leaves g t (request_of_kind request.kind) r new served;
      })
      (λ gone. some_more all (λ bytes. IsReceived (received.Request request) bytes) (λ bytes. IsGoneToSend bytes unread (Some sent)) came
      (λ bytes is. request_gone bytes unread is.0 is.1 request sent.is_head r is.2 is.3 same gone))
      (λ reported. reported)

  -- the reader failed
  pub failed_next : (desk : DeskState S) (e : Io) → AnsweredAt g desk desk (λ t. IsNextReady g t all unread (Err e) desk) (Unit {0}) (Unit {0})
  failed_next desk e = not_answered g desk (λ t. IsNextReady g t all unread (Err e) desk) (Unit {0}) (Unit {0}) (λ t at. record { ok = tt; leaves = (cut, (tt, at)) }) tt

-- ---- both halves

module _ {R W S : Type 0} (g : Ghosts S) (all : R → Option (List ℕ)) (reader left : R) (contents : W → Option (List ℕ)) (writer after : W) (old new : DeskState S) where
  -- one request was served; at 503 alone the desk may be poisoned by it
  abbrev pub OneServed : Result ℕ Io → Type 0
  OneServed status =
      AnsweredAt g old new (λ t. IsOneServed g t (all reader) (left ≡ reader) status (contents writer) (contents after) new)
      (IsGoneAnswered (all reader) (left ≡ reader) status (contents writer) (contents after)) (IfOk status (λ code. code ≡ 503))

  pub one_failed : (e : Io) → AnswersNext g all reader left (Err e) old new → OneServed (Err e)
  one_failed e it =
      answered g old new (λ t. IsNextReady g t (all reader) (left ≡ reader) (Err e) new) (λ t. IsOneServed g t (all reader) (left ≡ reader) (Err e) (contents writer) (contents after) new) _ _ _ _ it
      (λ t next. record { ok = tt; leaves = next.leaves }) (λ gone. gone) (λ reported. reported)

  pub one_sent : (it : Option OutgoingReply) (status : Result ℕ Io) → AnswersNext g all reader left (Ok it) old new → Sends it status (contents writer) (contents after) → OneServed status
  one_sent it status next sent =
      let unread : Type 0 = left ≡ reader in
      answered g old new (λ t. IsNextReady g t (all reader) unread (Ok it) new) (λ t. IsOneServed g t (all reader) unread status (contents writer) (contents after) new) _ _ _ _ next
      (λ t ready.
      record {
        ok = IfOk-weaker status _ _
            (λ code is. some_more (all reader) (λ bytes. IsToSend g t bytes unread it new) (λ bytes. Replies g t bytes unread code (contents writer) (contents after) new) ready.ok
            (λ bytes request. sent_reply g t bytes unread it code (contents writer) (contents after) new request is)) sent.ok;
        leaves = ready.leaves;
      })
      (λ gone. IfOk-weaker status _ _
      (λ code is. some_more (all reader) (λ bytes. IsGoneToSend bytes unread it) (λ bytes. GoneReplies bytes unread code (contents writer) (contents after)) gone
      (λ bytes request. sent_gone bytes unread it code (contents writer) (contents after) request is)) sent.ok)
      (λ reported. IfOk-weaker status _ _ (λ code is. sent_unavailable it code (contents writer) (contents after) reported is) sent.ok)

  undone : (bytes : Option (List ℕ)) (P : List ℕ → Type 0) → new ≡ old → after ≡ writer → IfSome bytes (λ it. ((new ≡ old) × (after ≡ writer)) ⊎ P it)
  undone None P same untouched = tt
  undone (Some it) P same untouched = inl (same, untouched)

  broken : (bytes : Option (List ℕ)) (it : Option OutgoingReply) → IsSomeSent it (contents writer) (contents after) → CalledAt g old new (λ t. IsNextReady g t bytes (left ≡ reader) (Ok it) new)
      → IfSome bytes (λ b. ((new ≡ old) × (after ≡ writer)) ⊎ CalledAt g old new (λ t. Breaks g t b (left ≡ reader) (contents writer) (contents after) new))
  broken None it some first = tt
  broken (Some b) None some first = absurd some
  broken (Some b) (Some sent) some first =
      inr (called g old new (λ t. IsNextReady g t (Some b) (left ≡ reader) (Ok (Some sent)) new) (λ t. Breaks g t b (left ≡ reader) (contents writer) (contents after) new) first (λ t ready. (sent.is_head, response sent.reply, ready.ok, some)))

  pub halves_failed : (e : Io) → AnswersNext g all reader left (Err e) old new → new ≡ old → after ≡ writer → InHalves g all reader left contents writer after (Err e) old new
  halves_failed e next same untouched =
      record {
        next = Err e;
        first = next;
        unserved = (refl, same, untouched);
        second = tt;
        err = undone (all reader) (λ bytes. CalledAt g old new (λ t. Breaks g t bytes (left ≡ reader) (contents writer) (contents after) new)) same untouched;
      }

  pub halves_sent : (it : Option OutgoingReply) (status : Result ℕ Io) → AnswersNext g all reader left (Ok it) old new → Sends it status (contents writer) (contents after)
      → InHalves g all reader left contents writer after status old new
  halves_sent it (Ok code) next sent = record { next = Ok it; first = next; unserved = tt; second = sent; err = tt }
  halves_sent it (Err e) next sent = record { next = Ok it; first = next; unserved = tt; second = sent; err = broken (all reader) it sent.err next.call }
