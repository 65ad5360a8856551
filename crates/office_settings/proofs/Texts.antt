-- Bytes that are a text, or none.
use Rattle.std.proofs.Common.{◌≡◌, ◌∙◌, ℕ, List, cond, Bool, true, false, Option, Some, None, refl, sym, ap}
use Rattle.std.specs.Str.{IsUtf8, is_utf8}
use Rattle.std.proofs.lemmas.Str.{IsUtf8-from_is_utf8, is_utf8-from_IsUtf8}
use Rattle.office_settings.specs.Looks.{text_in}

pub text_some : (text bytes : List ℕ) → (text ≡ bytes) × IsUtf8 bytes → Some text ≡ text_in bytes
unfolding text_in
text_some text bytes h = ap (λ (t : List ℕ). Some t) h.0 ∙ sym (ap (λ e. cond e (Some bytes) None) (is_utf8-from_IsUtf8 bytes h.1))

none_by : (bytes : List ℕ) (e : Bool) → is_utf8 bytes ≡ e → (IsUtf8 bytes → ⊥) → (let none : Option (List ℕ) = None in none) ≡ cond e (Some bytes) None
none_by bytes true is h = absurd (h (IsUtf8-from_is_utf8 bytes is))
none_by bytes false is h = refl

pub text_none : (bytes : List ℕ) → (IsUtf8 bytes → ⊥) → None ≡ text_in bytes
unfolding text_in
text_none bytes h = none_by bytes (is_utf8 bytes) refl h
