-- All bytes of a connection are one request only.
use Rattle.std.proofs.Common.{◌≡◌, refl, ℕ, List, []}
use Rattle.httparse.specs.Grammar.{RequestHead, ReadsRequest}
use Rattle.httparse.proofs.GrammarLemmas.{request_unique}
use Rattle.office_http.proofs.HeadLemmas.{nothing_has_none}
use Rattle.office_http.specs.Requests.{Request, IsRequest, nothing, headless, asks}

none_at : (bytes : List ℕ) (h : RequestHead) (rest : List ℕ) → bytes ≡ [] → ¬ (ReadsRequest bytes h rest)
none_at bytes h rest e reads = nothing_has_none bytes (rw e refl) h rest reads

pub same_request : (bytes : List ℕ) (q r : Request) → IsRequest q bytes → IsRequest r bytes → q ≡ r
same_request bytes nothing nothing x y = refl
same_request bytes nothing headless x y = absurd (y.0 x)
same_request bytes nothing (asks h rest) x y = absurd (none_at bytes h rest x y.0)
same_request bytes headless nothing x y = absurd (x.0 y)
same_request bytes headless headless x y = refl
same_request bytes headless (asks h rest) x y = absurd (x.1 h rest y.0 y.1)
same_request bytes (asks h rest) nothing x y = absurd (none_at bytes h rest y x.0)
same_request bytes (asks h rest) headless x y = absurd (y.1 h rest x.0 x.1)
same_request bytes (asks h rest) (asks k more) x y =
    let e : (h ≡ k) × (rest ≡ more) = request_unique bytes h k rest more x.0 y.0 in
    rw (e.0, e.1) refl
