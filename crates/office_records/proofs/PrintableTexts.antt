-- Printable ASCII characters are one byte each, and none is a control character.
use Rattle.std.proofs.Common.{◌≡◌, ◌≤◌, ℕ, List, All, get_or, length, inl, inr, true, ap, ◌∙◌, arith}
use Rattle.std.specs.List.{list_all}
use Rattle.std.specs.Str.{IsAscii, chars}
use Rattle.std.proofs.Math.ListN.{get_or-eq_default}
use Rattle.std.proofs.lemmas.Bool.{cases_lt}
use Rattle.std.proofs.lemmas.List.Sums.{list_all-from_AllPass}
use Rattle.std.proofs.lemmas.Str.{chars-IsAscii}
use Rattle.office_records.specs.TextForms.{is_text_character}

no_control : (b : ℕ) → 32 ≤ b → b ≤ 126 → is_text_character b ≡ true
no_control b low high = grind (arith)

is_ascii : (text : List ℕ) → All (λ b. (32 ≤ b) × (b ≤ 126)) text → IsAscii text
is_ascii text all k = elim (cases_lt k (length text)) [
  | inl within ↦ let high = (all k 0 within).1 in omega (arith, high)
  | inr past ↦ let zero : get_or text k 0 ≡ 0 = get_or-eq_default text 0 past in omega (arith, zero)
]

pub printable : (text : List ℕ) → All (λ b. (32 ≤ b) × (b ≤ 126)) text → list_all is_text_character (chars text) ≡ true
printable text all =
    ap (list_all is_text_character) (chars-IsAscii text (is_ascii text all))
    ∙ list_all-from_AllPass is_text_character text (λ k d low. let within = all k d low in no_control _ within.0 within.1)
