-- A request with what a proxy states about it, by all bytes of the connection.
use Rattle.std.proofs.Common.{◌≡◌, ℕ, List, Option, Some, None, drop, ◌++◌, subst}
use Rattle.std.specs.Prelude.{IfSome}
use Rattle.httparse.specs.Grammar.{RequestHead}
use Rattle.httparse.specs.Spans.{IsRequestAt}
use Rattle.httparse.specs.declared.spans.HeaderSpan.{HeaderSpan}
use Rattle.httparse.specs.declared.spans.RequestSpans.{RequestSpans}
use Rattle.office_http.specs.Proxies.{IsProxied, IsProxiedFrom}
use Rattle.office_http.specs.Requests.{ReadsHead}
use Rattle.office_http.specs.declared.head.Head.{Head}
use Rattle.office_http.specs.declared.head.Head.TheVariants.{Found}
use Rattle.office_http.specs.declared.proxied_request.Proxied.TheVariants as proxied
use Rattle.office_http.specs.declared.proxied_request.ProxiedRequest.{ProxiedRequest}

module _ (spans : RequestSpans) (buf : List ℕ) (headers : List HeaderSpan) (it : ProxiedRequest) where
  found : (before after : Option (List ℕ)) → ReadsHead (Found spans) buf headers before after
      → IfSome after (λ left. (h : RequestHead) → IsRequestAt buf headers spans h → IsProxiedFrom h (drop spans.len buf ++ left) it)
      → IfSome before (λ bytes. IsProxied (proxied.Request it) bytes)
  found None after reads stated = tt
  found (Some bytes) None reads stated = absurd reads.read
  found (Some bytes) (Some left) reads stated =
      (reads.request.0, drop spans.len buf ++ left, reads.request.2, stated reads.request.0 reads.request.1)

  pub is_proxied : (before after : Option (List ℕ)) (head : Head) → head ≡ Found spans → ReadsHead head buf headers before after
      → IfSome after (λ left. (h : RequestHead) → IsRequestAt buf headers spans h → IsProxiedFrom h (drop spans.len buf ++ left) it)
      → IfSome before (λ bytes. IsProxied (proxied.Request it) bytes)
  is_proxied before after head is reads stated =
      found before after (subst (λ (x : Head). ReadsHead x buf headers before after) is reads) stated
