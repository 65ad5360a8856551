-- What the bytes that were read so far say of all bytes of a connection.
use Rattle.std.proofs.Common.{◌≡◌, ◌≢◌, ◌∙◌, sym, ap, refl, ℕ, List, [], ◌∷◌, ◌++◌, ◌<◌, ◌==◌, true, length, length-append, take, drop, ◌≤◌, ◌+◌, arith, Option, Some, None, IfSome}
use Rattle.std.proofs.lemmas.Bool.{eqb-true}
use Rattle.std.proofs.lemmas.List.{take-append-le, take-append-drop}
use Rattle.std.proofs.Math.Seq.{take-append_seam}
use Rattle.std.specs.Io.KnownBytes.{Consumes}
use Rattle.httparse.specs.Grammar.{RequestHead, print_request, HasNoRequest}
use Rattle.httparse.specs.declared.spans.HeaderSpan.{HeaderSpan}
use Rattle.office_http.specs.Requests.{IsRequest, IsHeadless, ReadsHead, headless}
use Rattle.office_http.specs.declared.head.Head.TheVariants.{Missing}

not_empty : (a b : List ℕ) → a ≢ [] → a ++ b ≢ []
not_empty [] b h = λ e. h refl
not_empty (x ∷ a) b h = λ e. cc

pub missing_ever : (old new : Option (List ℕ)) (buf : List ℕ) → Consumes old new buf → buf ≢ [] → ((more : List ℕ) → IsHeadless (buf ++ more)) → IfSome old (λ bytes. IsRequest headless bytes)
missing_ever None new buf h n s = tt
missing_ever (Some xs) None buf h n s = absurd h
missing_ever (Some xs) (Some ys) buf h n s = rw h (not_empty buf ys n, s ys)

-- a list that is long enough begins with what it begins with when more follows
starts : (p rest buf ys : List ℕ) → buf ++ ys ≡ p ++ rest → length p ≤ length buf → buf ≡ p ++ drop (length p) buf
starts p rest buf ys e le =
    let same : take (length p) buf ≡ p = sym (take-append-le (length p) buf ys le) ∙ ap (take (length p)) e ∙ take-append_seam p rest in
    sym (take-append-drop (length p) buf) ∙ ap (λ (t : List ℕ). t ++ drop (length p) buf) same

longer : (h : RequestHead) → 0 < length h.method → 0 < length (print_request h)
unfolding print_request
longer h some = simp length-append (omega (arith, some))

long_not_empty : (a b : List ℕ) → 16_384 ≤ length a → a ++ b ≢ []
long_not_empty [] b h = λ e. omega (arith, h)
long_not_empty (x ∷ a) b h = λ e. cc

pub missing_long : (old new : Option (List ℕ)) (buf : List ℕ) → Consumes old new buf → 16_384 ≤ length buf → HasNoRequest buf → IfSome old (λ bytes. IsRequest headless bytes)
missing_long None new buf h l s = tt
missing_long (Some xs) None buf h l s = absurd h
missing_long (Some xs) (Some ys) buf h l s = (
  rw h (long_not_empty buf ys l),
  λ head rest reads short. s head (drop (length (print_request head)) buf) (reads.0, starts _ rest buf ys (sym h ∙ reads.1) (omega (arith, short.bytes, l))),
)

-- where there is no head, the rest of what reading one says reports nothing
unreported : (old new : Option (List ℕ)) → IfSome old (λ bytes. IfSome new (λ left. Unit {0}))
unreported None new = tt
unreported (Some xs) None = tt
unreported (Some xs) (Some ys) = tt

pub reads_none : (old new : Option (List ℕ)) (buf : List ℕ) (headers : List HeaderSpan) → Consumes old new buf → IfSome old (λ bytes. IsRequest headless bytes) → ReadsHead Missing buf headers old new
reads_none old new buf headers h n = record { read = h; head = n; spans = tt; request = unreported old new }

-- no bytes begin no head
pub nothing_has_none : (buf : List ℕ) → true ≡ (length buf == 0) → HasNoRequest buf
unfolding print_request
nothing_has_none buf none h rest reads =
    let zero : length buf ≡ 0 = eqb-true _ _ (sym none) in
    let e : length buf ≡ length (print_request h ++ rest) = ap length reads.1 in
    let n : length buf ≡ length (print_request h) + length rest = e ∙ length-append (print_request h) rest in
    let m : 0 < length (print_request h) = longer h reads.0.method.0 in
    omega (arith, zero, n, m)
