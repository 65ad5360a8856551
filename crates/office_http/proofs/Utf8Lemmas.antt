-- What `from_utf8` reports, by the test of UTF-8.
use Rattle.std.proofs.Common.{◌≡◌, ℕ, List, Bool, true, false, ◌&&◌, not, Bor, Option, Result, Ok, Err, refl}
use Rattle.std.specs.Option.{MatchOption}
use Rattle.std.specs.Result.{MatchResult, result_ok}
use Rattle.std.specs.Str.{IsUtf8, is_utf8}
use Rattle.std.proofs.lemmas.Str.{IsUtf8-from_is_utf8, is_utf8-from_IsUtf8}

-- the bytes as text, exactly where a test that they pass says that they are UTF-8
abbrev pub IsTextOf : Bool → List ℕ → Option (Bor (List ℕ)) → Type 0
IsTextOf query bytes result = MatchOption result ((not query && is_utf8 bytes) ≡ false) (λ text. ((not query && is_utf8 bytes) ≡ true) × (text.now ≡ bytes))

refuted : (b : Bool) → ¬ (b ≡ true) → b ≡ false
refuted true h = absurd (h refl)
refuted false h = refl

from_utf8-text : {E : Type 0} (bytes : List ℕ) (read : Result (Bor (List ℕ)) E) (F : E → Type 0) → MatchResult read (λ s. (s.now ≡ bytes) × IsUtf8 bytes) (λ e. ¬ (IsUtf8 bytes) × F e) → IsTextOf false bytes (result_ok read)
from_utf8-text bytes (Ok s) F h = (is_utf8-from_IsUtf8 bytes h.1, h.0)
from_utf8-text bytes (Err e) F h = refuted (is_utf8 bytes) (λ e. h.0 (IsUtf8-from_is_utf8 bytes e))

pub text-known : {E : Type 0} (query : Bool) (bytes : List ℕ) (read : Result (Bor (List ℕ)) E) (F : E → Type 0) (result : Option (Bor (List ℕ))) → query ≡ false → MatchResult read (λ s. (s.now ≡ bytes) × IsUtf8 bytes) (λ e. ¬ (IsUtf8 bytes) × F e) → result ≡ result_ok read → IsTextOf query bytes result
text-known query bytes read F result none h e = rw (none, e) (from_utf8-text bytes read F h)
