-- What a connection asks for, by all its bytes. Source: RFC 9112 for the request, as `office_http` reads it; the rest
-- is own.
use Rattle.std.specs.Prelude.{◌≡◌, ◌++◌, ℕ, List, IfOk, IfSome, MatchResult, length, take, nat_lt, if◌then◌else◌, Option, Result}
use Rattle.httparse.specs.Grammar.{RequestHead}
use Rattle.office_http.specs.RequestPlans.{is_head_method, plan_at}
use Rattle.office_http.specs.Requests.{IsRequest, nothing, headless, asks}
use Rattle.office_http.specs.declared.rejection.Rejection.{Rejection}
use Rattle.office_http.specs.declared.request_plan.RequestPlan.{RequestPlan}
use Rattle.office_http.specs.declared.request_plan.RequestPlan.TheVariants.{Acts, Refuse, Serve}
use Rattle.office_http.specs.declared.path_request.PathRequest.{PathRequest}
use Rattle.office_http.specs.declared.request.ParsedRequest.{ParsedRequest}
use Rattle.office_http.specs.declared.request.RequestKind.{RequestKind}
use Rattle.office_http.specs.declared.request.RequestKind.TheVariants as kind
use Rattle.office_http.specs.declared.request.Received.{Received}
use Rattle.office_http.specs.declared.request.Received.TheVariants as received
use Rattle.office_http.specs.declared.request.ReceiveStop.{ReceiveStop}
use Rattle.office_http.specs.declared.request.ReceiveStop.TheVariants as stop

-- what is asked of the office: nothing, since a check of the head fails or the body is cut; the acts of a body; or what
-- the path says
pub data OfficeRequest : Type 0 where
  refused : Rejection → OfficeRequest
  cut : OfficeRequest
  acts : List ℕ → OfficeRequest
  requested : PathRequest → OfficeRequest

-- the body of acts, where so many bytes are there; those after it do not matter
abbrev pub request_of_body : ℕ → List ℕ → OfficeRequest
request_of_body size rest = if nat_lt (length rest) size then cut else acts (take size rest)

abbrev pub request_of_plan : RequestPlan → List ℕ → OfficeRequest
request_of_plan (Refuse check) rest = refused check
request_of_plan (Acts size) rest = request_of_body size rest
request_of_plan (Serve request) rest = requested request

-- what a head and the bytes after it ask for
abbrev pub office_request : RequestHead → List ℕ → OfficeRequest
office_request h rest = request_of_plan (plan_at h) rest

-- ---- what the code answers

-- what was received, as a request of the office
abbrev pub request_of_kind : RequestKind → OfficeRequest
request_of_kind (kind.Refused check) = refused check
request_of_kind kind.Cut = cut
request_of_kind (kind.Acts body) = acts body
request_of_kind (kind.Serve request) = requested request

-- what was received is what these bytes and all that the reader had left ask for
abbrev pub IsRequestRead : {E : Type 0} → (List ℕ → OfficeRequest) → List ℕ → Option (List ℕ) → Result RequestKind E
    → Type 0
IsRequestRead request_of read left result =
    IfOk result (λ it. IfSome left (λ rest. request_of_kind it ≡ request_of (read ++ rest)))

-- of a head and the bytes after it: what they ask for, and whether the head of the answer alone is written
pub record IsParsedFrom (h : RequestHead) (rest : List ℕ) (it : ParsedRequest) : Type 0 where
  pub request : request_of_kind it.kind ≡ office_request h rest
  pub is_head : it.is_head ≡ is_head_method h.method

-- what was received is what all bytes are
abbrev pub IsReceived : Received → List ℕ → Type 0
IsReceived received.Nothing bytes = IsRequest nothing bytes
IsReceived received.Headless bytes = IsRequest headless bytes
IsReceived (received.Request it) bytes =
    (h : RequestHead) × (rest : List ℕ) × IsRequest (asks h rest) bytes × IsParsedFrom h rest it

-- acts in a body of some size are asked for
abbrev pub HasActs : RequestHead → Type 0
HasActs h = (size : ℕ) × (plan_at h ≡ Acts size)

-- why the rest of a request with that head was not received: the body of acts alone takes memory
abbrev pub IsOutOfMemoryFor : RequestHead → ReceiveStop → Type 0
IsOutOfMemoryFor h stop.Io = Unit {0}
IsOutOfMemoryFor h stop.Memory = ⊥
IsOutOfMemoryFor h stop.MemoryForBody = HasActs h

-- why nothing was received of all bytes: where memory ran out after the head, these bytes have one that asks for acts
abbrev pub IsOutOfMemory : ReceiveStop → List ℕ → Type 0
IsOutOfMemory stop.Io bytes = Unit {0}
IsOutOfMemory stop.Memory bytes = Unit {0}
IsOutOfMemory stop.MemoryForBody bytes =
    (h : RequestHead) × (rest : List ℕ) × IsRequest (asks h rest) bytes × HasActs h

-- what came of all bytes: what was received, or why nothing was
abbrev pub Receives : Result Received ReceiveStop → List ℕ → Type 0
Receives came bytes = MatchResult came (λ it. IsReceived it bytes) (λ why. IsOutOfMemory why bytes)
