-- What is served for whoever is stated.
use Rattle.std.proofs.Common.{◌≡◌, ◌∙◌, inl, inr, ap, refl, subst, sym, ℕ, ℤ, Bool, true, false, List, cond, map, Option, Some, None, Ok, Err}
use Rattle.std.specs.Prelude.{IfSome, codes}
use Rattle.httparse.specs.Grammar.{RequestHead}
use Rattle.httparse.specs.Spans.{name_and_value}
use Rattle.sqlite_trees.specs.declared.store.Store.{Ghosts}
use Rattle.office_access.specs.Settings.{Settings}
use Rattle.office_access.specs.declared.person.SignIn.{SignIn}
use Rattle.office_base.specs.declared.memory.Memory.{Memory}
use Rattle.office_desk.specs.Desk.{DeskState}
use Rattle.office_gate.specs.Exchanges.{AnswersStated, HasStatedReply, IsAnsweredStated, IsGivenStated, IsStatedNext, IsStatedReply, IsStatedServed, IsStatedToSend}
use Rattle.office_gate.specs.Stated.{has_value, stated_day, stated_name, visitor_among, visitor_by, visitor_stated}
use Rattle.office_gate.specs.Visitors.{Visitor}
use Rattle.office_gate.specs.declared.gate.Gate.{Gate}
use Rattle.office_http.specs.Fields.{Values, found_named}
use Rattle.office_http.specs.Proxies.{IsProxied, IsProxiedFrom, values_of}
use Rattle.office_http.specs.Receiving.{OfficeRequest, office_request, request_of_kind}
use Rattle.office_http.specs.Replies.{Response, error_response, response}
use Rattle.office_http.specs.Requests.{asks}
use Rattle.office_http.specs.declared.proxied_request.Proxied.TheVariants as proxied
use Rattle.office_http.specs.declared.proxied_request.ProxiedRequest.{ProxiedRequest}
use Rattle.office_http.specs.declared.request_error.RequestError.TheVariants as error
use Rattle.office_rules.specs.State.{State}
use Rattle.office_wire.specs.Answering.{IsGivenUnavailable, IsUnavailable}
use Rattle.office_wire.specs.declared.exchange.OutgoingReply.{OutgoingReply}
use Rattle.office_wire.proofs.Calls.{answered}
use Rattle.office_wire.proofs.Unavailable.{memory_unavailable}

-- ---- lack of memory

module _ {S : Type 0} (g : Ghosts S) (v : Option Visitor) (request : OfficeRequest) (e : Memory) (r : Response) (old new : DeskState S) where
  memory_served : (t : State) → r ≡ error_response error.Memory → IsGivenStated g t v request (Err e) new → IsStatedServed g t v request r new
  memory_served t is (inl served) = inr (is, inl served)
  memory_served t is (inr at) = inr (is, inr at)

  pub out_of_memory : r ≡ error_response error.Memory → IsAnsweredStated g v request (Err e) old new → HasStatedReply g v request r old new
  out_of_memory is it =
      answered g old new (λ t. IsGivenStated g t v request (Err e) new) (λ t. IsStatedServed g t v request r new)
      (Unit {0}) (Unit {0}) (IsGivenUnavailable (Err e)) (IsUnavailable r) it
      (λ t given. memory_served t is given) (λ gone. tt)
      (λ reported. subst (λ (x : Response). IsUnavailable x) (sym is) memory_unavailable)

-- ---- who is stated

settings_by : (settings : Settings) (day : Option ℤ) (name : Option SignIn) → IfSome (visitor_by settings day name) (λ it. it.settings ≡ settings)
settings_by settings None name = tt
settings_by settings (Some today) None = tt
settings_by settings (Some today) (Some name) = refl

settings_if : (b : Bool) (settings : Settings) (day : Option ℤ) (name : Option SignIn) → IfSome (cond b (visitor_by settings day name) None) (λ it. it.settings ≡ settings)
settings_if true settings day name = settings_by settings day name
settings_if false settings day name = tt

pub settings_stated : (gate : Gate) (token name day : Values) → IfSome (visitor_stated gate token name day) (λ it. it.settings ≡ gate.policy)
settings_stated gate token name day = settings_if (has_value gate.token token) gate.policy (stated_day day) (stated_name name)

-- ---- a request that came

module _ {S : Type 0} (g : Ghosts S) (gate : Gate) (it : ProxiedRequest) (sending : OutgoingReply) (old new : DeskState S) where
  abbrev pub stated : Option Visitor
  stated = visitor_stated gate (values_of it.lines.token) (values_of it.lines.name) (values_of it.lines.day)

  pub is_stated : (h : RequestHead) (rest : List ℕ) → IsProxiedFrom h rest it → stated ≡ visitor_among gate (map name_and_value h.fields)
  is_stated h rest from =
      let fields = map name_and_value h.fields in
      ap (λ (token : Values). visitor_stated gate token (values_of it.lines.name) (values_of it.lines.day)) from.lines.token
      ∙ ap (λ (name : Values). visitor_stated gate (found_named (codes "office-token") fields) name (values_of it.lines.day)) from.lines.name
      ∙ ap (λ (day : Values). visitor_stated gate (found_named (codes "office-token") fields) (found_named (codes "office-name") fields) day) from.lines.day

  reply : (t : State) (bytes : List ℕ) → IsProxied (proxied.Request it) bytes → sending.is_head ≡ it.request.is_head
      → IsStatedServed g t stated (request_of_kind it.request.kind) (response sending.reply) new → IsStatedReply g t gate bytes sending.is_head (response sending.reply) new
  reply t bytes (h, rest, is, from) head served =
      inl (
        asks h rest,
        is,
        (
          head ∙ from.request.is_head,
          subst (λ (v : Option Visitor). IsStatedServed g t v (office_request h rest) (response sending.reply) new) (is_stated h rest from)
              (subst (λ (x : OfficeRequest). IsStatedServed g t stated x (response sending.reply) new) from.request.request served),
        ),
      )

  to_send : (t : State) (all : Option (List ℕ)) → IfSome all (λ bytes. IsProxied (proxied.Request it) bytes) → sending.is_head ≡ it.request.is_head
      → IsStatedServed g t stated (request_of_kind it.request.kind) (response sending.reply) new
      → IfSome all (λ bytes. IsStatedToSend g t gate bytes (Some sending) new)
  to_send t None came head served = tt
  to_send t (Some bytes) came head served = reply t bytes came head served

  pub request_next : (all : Option (List ℕ)) → IfSome all (λ bytes. IsProxied (proxied.Request it) bytes) → sending.is_head ≡ it.request.is_head
      → HasStatedReply g stated (request_of_kind it.request.kind) (response sending.reply) old new → AnswersStated g gate all (Ok (Some sending)) old new
  request_next all came head has =
      answered g old new (λ t. IsStatedServed g t stated (request_of_kind it.request.kind) (response sending.reply) new)
      (λ t. IsStatedNext g t gate all (Ok (Some sending)) new) (Unit {0}) (Unit {0}) (IsUnavailable (response sending.reply)) _ has
      (λ t served. record {
        ok = to_send t all came head served;
        leaves = inr (stated, settings_stated gate _ _ _, request_of_kind it.request.kind, response sending.reply, served);
      })
      (λ gone. tt) (λ reported. reported)
