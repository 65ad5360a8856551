-- Which bytes are which request, up to the end of the head. Source: RFC 9112 section 2 as `httparse` reads it; the
-- limits are own.
use Rattle.std.specs.Prelude.{◌≡◌, ◌≢◌, ℕ, ◌≤◌, List, [], ◌++◌, drop, length, Option, IfSome}
use Rattle.std.specs.Io.KnownBytes.{Consumes}
use Rattle.httparse.specs.Grammar.{RequestHead, print_request, ReadsRequest, HasNoRequest}
use Rattle.httparse.specs.declared.spans.HeaderSpan.{HeaderSpan}
use Rattle.httparse.specs.declared.spans.RequestSpans.{RequestSpans}
use Rattle.httparse.specs.Spans.{IsRequestAt, IsRequestWithin}
use Rattle.office_http.specs.declared.head.HeadParse.{HeadParse}
use Rattle.office_http.specs.declared.head.HeadParse.TheVariants.{Complete, Partial, Invalid}
use Rattle.office_http.specs.declared.head.Head.{Head}
use Rattle.office_http.specs.declared.head.Head.TheVariants.{Found, Missing, Empty}

-- a head within the limits: its bytes, and its field lines
pub record IsShort (h : RequestHead) : Type 0 where
  pub bytes : length (print_request h) ≤ 16_384
  pub lines : length h.fields ≤ 64

-- what all bytes of a connection are: none at all, bytes without a head, or a head and the bytes after it
pub data Request : Type 0 where
  nothing : Request
  headless : Request
  asks : RequestHead → List ℕ → Request

-- the bytes do not begin with a head within the limits
abbrev pub IsHeadless : List ℕ → Type 0
IsHeadless bytes = (h : RequestHead) (rest : List ℕ) → ReadsRequest bytes h rest → ¬ (IsShort h)

-- all bytes of a connection are this request
abbrev pub IsRequest : Request → List ℕ → Type 0
IsRequest nothing bytes = bytes ≡ []
IsRequest headless bytes = (bytes ≢ []) × IsHeadless bytes
IsRequest (asks h rest) bytes = ReadsRequest bytes h rest × IsShort h

-- the spans cover the parts of a short head with which the buffer begins
abbrev pub IsHeadAt : RequestSpans → List ℕ → List HeaderSpan → Type 0
IsHeadAt spans buf headers =
    IsRequestWithin buf headers spans × ((h : RequestHead) × IsRequestAt buf headers spans h × IsShort h)

-- what a buffer reports of all bytes that may begin with it
abbrev pub IsParsed : HeadParse → List ℕ → List HeaderSpan → Type 0
IsParsed (Complete spans) buf headers = IsHeadAt spans buf headers
IsParsed Partial buf headers = HasNoRequest buf
IsParsed Invalid buf headers = (more : List ℕ) → IsHeadless (buf ++ more)

-- where a head was found, it is in the buffer
abbrev pub IsHeadOf : Head → List ℕ → List HeaderSpan → Type 0
IsHeadOf (Found spans) buf headers = IsHeadAt spans buf headers
IsHeadOf Missing buf headers = Unit {0}
IsHeadOf Empty buf headers = Unit {0}

-- where none was found, what all bytes are
abbrev pub IsRead : Head → List ℕ → Type 0
IsRead (Found spans) bytes = Unit {0}
IsRead Missing bytes = IsRequest headless bytes
IsRead Empty bytes = IsRequest nothing bytes

-- where a head was found, what all bytes are: that head, then what the buffer has after it and what is left in the
-- reader
abbrev pub IsRequestFound : Head → List ℕ → List ℕ → List HeaderSpan → List ℕ → Type 0
IsRequestFound (Found spans) bytes buf headers left =
    (h : RequestHead) × IsRequestAt buf headers spans h × IsRequest (asks h (drop spans.len buf ++ left)) bytes
IsRequestFound Missing bytes buf headers left = Unit {0}
IsRequestFound Empty bytes buf headers left = Unit {0}

-- a connection was read into an empty buffer until its head was whole, or until there was none, by what is before and
-- after in the reader
pub record ReadsHead (it : Head) (buf : List ℕ) (headers : List HeaderSpan) (before after : Option (List ℕ)) : Type 0
  where
    pub read : Consumes before after buf
    pub head : IfSome before (λ bytes. IsRead it bytes)
    pub spans : IsHeadOf it buf headers
    pub request : IfSome before (λ bytes. IfSome after (λ left. IsRequestFound it bytes buf headers left))
