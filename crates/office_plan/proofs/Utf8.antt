-- What `from_utf8` reports, by the test of UTF-8.
use Rattle.std.proofs.Common.{◌≡◌, ℕ, List, Bool, true, false, Bor, Option, Result, Ok, Err, refl, sym, subst}
use Rattle.std.specs.Option.{MatchOption}
use Rattle.std.specs.Result.{MatchResult, result_ok}
use Rattle.std.specs.Str.{IsUtf8, is_utf8}
use Rattle.std.proofs.lemmas.Str.{IsUtf8-from_is_utf8, is_utf8-from_IsUtf8}

-- the line as text, exactly where it is UTF-8
abbrev pub IsTextOf : List ℕ → Option (Bor (List ℕ)) → Type 0
IsTextOf line result = MatchOption result (is_utf8 line ≡ false) (λ text. (is_utf8 line ≡ true) × (text.now ≡ line))

refuted : (b : Bool) → (b ≡ true → ⊥) → b ≡ false
refuted true h = absurd (h refl)
refuted false h = refl

from_utf8-text : {E : Type 0} (line : List ℕ) (read : Result (Bor (List ℕ)) E) (F : E → Type 0) → MatchResult read (λ s. (s.now ≡ line) × IsUtf8 line) (λ e. ¬ (IsUtf8 line) × F e) → IsTextOf line (result_ok read)
from_utf8-text line (Ok s) F h = (is_utf8-from_IsUtf8 line h.1, h.0)
from_utf8-text line (Err e) F h = refuted (is_utf8 line) (λ e. h.0 (IsUtf8-from_is_utf8 line e))

pub text-known : {E : Type 0} (line : List ℕ) (read : Result (Bor (List ℕ)) E) (F : E → Type 0) (result : Option (Bor (List ℕ))) → MatchResult read (λ s. (s.now ≡ line) × IsUtf8 line) (λ e. ¬ (IsUtf8 line) × F e) → result ≡ result_ok read → IsTextOf line result
text-known line read F result h e = subst (IsTextOf line) (sym e) (from_utf8-text line read F h)
