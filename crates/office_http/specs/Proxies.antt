-- What a proxy states about a request, in field lines of its own; and a request with these lines. Source: own.
use Rattle.std.specs.Prelude.{◌≡◌, ℕ, List, map, codes, MatchResult, Result}
use Rattle.httparse.specs.Grammar.{RequestHead}
use Rattle.httparse.specs.Spans.{name_and_value}
use Rattle.office_http.specs.Fields.{Values, found_named, many, missing, one}
use Rattle.office_http.specs.Receiving.{HasActs, IsOutOfMemory, IsParsedFrom}
use Rattle.office_http.specs.Requests.{IsRequest, asks, headless, nothing}
use Rattle.office_http.specs.declared.proxied_request.Proxied.{Proxied}
use Rattle.office_http.specs.declared.proxied_request.Proxied.TheVariants as proxied
use Rattle.office_http.specs.declared.proxied_request.ProxiedRequest.{ProxiedRequest}
use Rattle.office_http.specs.declared.proxy_lines.FieldValue.{FieldValue}
use Rattle.office_http.specs.declared.proxy_lines.FieldValue.TheVariants as value
use Rattle.office_http.specs.declared.proxy_lines.ProxyLines.{ProxyLines}
use Rattle.office_http.specs.declared.request.ReceiveStop.{ReceiveStop}
use Rattle.office_http.specs.declared.request.ReceiveStop.TheVariants as stop

abbrev pub values_of : FieldValue → Values
values_of value.Missing = missing
values_of (value.One bytes) = one bytes.items
values_of value.Many = many

-- among these fields: the token, the name that signed in, the day, and the address that the request came from
pub record AreProxyLines (fields : List (List ℕ × List ℕ)) (lines : ProxyLines) : Type 0 where
  pub token : values_of lines.token ≡ found_named (codes "office-token") fields
  pub name : values_of lines.name ≡ found_named (codes "office-name") fields
  pub day : values_of lines.day ≡ found_named (codes "office-day") fields
  pub from : values_of lines.from ≡ found_named (codes "office-from") fields

-- of a head and the bytes after it: what they ask for, and what the proxy states
pub record IsProxiedFrom (h : RequestHead) (rest : List ℕ) (it : ProxiedRequest) : Type 0 where
  pub request : IsParsedFrom h rest it.request
  pub lines : AreProxyLines (map name_and_value h.fields) it.lines

-- why the rest of a request with that head was not received: the lines of the proxy take memory, and the body of acts
abbrev pub IsStopFor : RequestHead → ReceiveStop → Type 0
IsStopFor h stop.Io = Unit {0}
IsStopFor h stop.Memory = Unit {0}
IsStopFor h stop.MemoryForBody = HasActs h

-- what was received is what all bytes are
abbrev pub IsProxied : Proxied → List ℕ → Type 0
IsProxied proxied.Nothing bytes = IsRequest nothing bytes
IsProxied proxied.Headless bytes = IsRequest headless bytes
IsProxied (proxied.Request it) bytes =
    (h : RequestHead) × (rest : List ℕ) × IsRequest (asks h rest) bytes × IsProxiedFrom h rest it

-- what came of all bytes: what was received, or why nothing was
abbrev pub ReceivesProxied : Result Proxied ReceiveStop → List ℕ → Type 0
ReceivesProxied came bytes =
    MatchResult came (λ it. IsProxied it bytes) (λ why. IsOutOfMemory why bytes)
