-- A request that arrived.
use Rattle.std.proofs.Common.{◌≡◌, ◌∙◌, ap, inl, inr, map, sym, subst, ℕ, List, Option, Some, None}
use Rattle.std.specs.Prelude.{IfSome}
use Rattle.httparse.specs.Spans.{name_and_value}
use Rattle.sqlite_trees.specs.declared.store.Store.{Ghosts}
use Rattle.office_access.specs.Settings.{Settings}
use Rattle.office_desk.specs.Desk.{DeskState}
use Rattle.office_gate.specs.Exchanges.{LeavesVisited}
use Rattle.office_gate.specs.Stated.{visitor_among, visitor_stated}
use Rattle.office_gate.specs.Visitors.{Visitor}
use Rattle.office_gate.proofs.Visited.{is_stated}
use Rattle.office_http.specs.Proxies.{IsProxied, values_of}
use Rattle.office_http.specs.Receiving.{OfficeRequest, office_request, request_of_kind}
use Rattle.office_http.specs.Replies.{Response, response}
use Rattle.office_http.specs.Requests.{asks}
use Rattle.office_http.specs.declared.proxied_request.Proxied.TheVariants as proxied
use Rattle.office_http.specs.declared.proxied_request.ProxiedRequest.{ProxiedRequest}
use Rattle.office_noting.specs.Arrivals.{IsNotedStated, IsNotedToSend, NotesVisit, stated_address}
use Rattle.office_noting.specs.Ledgers.{Ledger}
use Rattle.office_noting.specs.declared.arrival.Arrival.{Arrival}
use Rattle.office_noting.proofs.Leaves.{left}
use Rattle.office_wire.specs.Answering.{IsUnavailable}
use Rattle.office_wire.specs.Calling.{AnsweredAt}
use Rattle.office_wire.specs.declared.exchange.OutgoingReply.{OutgoingReply}
use Rattle.office_wire.proofs.Calls.{not_answered}

module _ {W S : Type 0} (contents : W → Option (List ℕ)) (g : Ghosts S) (arrival : Arrival) (ledger after : Ledger W) (old new : DeskState S) where
  abbrev Stated : List ℕ → Option Visitor → OfficeRequest → Response → Type 0
  Stated address v request r = IsNotedStated contents g arrival address v request r ledger after old new

  abbrev IsOurs : Option Visitor → Type 0
  IsOurs v = IfSome v (λ it. it.settings ≡ arrival.gate.now.policy)

  pub visited : (address : List ℕ) (v : Option Visitor) (request : OfficeRequest) (r : Response) → IsOurs v → Stated address v request r
      → NotesVisit contents g arrival ledger after old new
  visited address v request r ours (inl memory) = inl memory.1
  visited address None request r ours (inr it) = inl it.1
  visited address (Some v) request r ours (inr (visit, at, reply)) =
      inr (visit, record { policy = ap (λ (it : Visitor). it.settings) at.visitor ∙ ours; settings = at.settings }, request, r, reply)

  -- ---- where the desk is

  abbrev LeftBy : Settings → Response → Type 0
  LeftBy policy r = AnsweredAt g old new (λ t. LeavesVisited g t policy new) (Unit {0}) (IsUnavailable r)

  stays : (policy : Settings) (r : Response) → new ≡ old → LeftBy policy r
  stays policy r same =
      subst (λ (desk : DeskState S). AnsweredAt g old desk (λ t. LeavesVisited g t policy desk) (Unit {0}) (IsUnavailable r)) (sym same)
      (not_answered g old (λ t. LeavesVisited g t policy old) (Unit {0}) (IsUnavailable r) (λ t at. inl at) tt)

  pub left_by : (address : List ℕ) (v : Option Visitor) (request : OfficeRequest) (r : Response) → IsOurs v → Stated address v request r
      → LeftBy arrival.gate.now.policy r
  left_by address v request r ours (inl memory) = stays arrival.gate.now.policy r memory.1.1
  left_by address None request r ours (inr it) = stays arrival.gate.now.policy r it.1.1
  left_by address (Some v) request r ours (inr (visit, at, reply)) =
      subst (λ (policy : Settings). LeftBy policy r) (ap (λ (it : Visitor). it.settings) at.visitor ∙ ours)
      (left contents g visit old new request r ledger after reply)

  -- ---- the answer to all bytes

  module _ (it : ProxiedRequest) (sending : OutgoingReply) where
    abbrev stated : Option Visitor
    stated = visitor_stated arrival.gate.now (values_of it.lines.token) (values_of it.lines.name) (values_of it.lines.day)

    abbrev address : List ℕ
    address = stated_address (values_of it.lines.from)

    answers : (bytes : List ℕ) → IsProxied (proxied.Request it) bytes → sending.is_head ≡ it.request.is_head
        → Stated address stated (request_of_kind it.request.kind) (response sending.reply) → IsNotedToSend contents g arrival bytes (Some sending) ledger after old new
    answers bytes (h, rest, is, from) head noted =
        inl (
          asks h rest,
          is,
          (
            head ∙ from.request.is_head,
            subst (λ (a : List ℕ). Stated a (visitor_among arrival.gate.now (map name_and_value h.fields)) (office_request h rest) (response sending.reply)) (ap stated_address from.lines.from)
                (subst (λ (v : Option Visitor). Stated address v (office_request h rest) (response sending.reply)) (is_stated g arrival.gate.now it sending old new h rest from)
                (subst (λ (x : OfficeRequest). Stated address stated x (response sending.reply)) from.request.request noted)),
          ),
        )

    pub to_send : (all : Option (List ℕ)) → IfSome all (λ bytes. IsProxied (proxied.Request it) bytes) → sending.is_head ≡ it.request.is_head
        → Stated address stated (request_of_kind it.request.kind) (response sending.reply)
        → IfSome all (λ bytes. IsNotedToSend contents g arrival bytes (Some sending) ledger after old new)
    to_send None came head noted = tt
    to_send (Some bytes) came head noted = answers bytes came head noted
