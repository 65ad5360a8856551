-- Characters that change how a terminal shows a line. Source: docs/ACCESS.md, "The journal".
use Rattle.std.specs.Prelude.{ℕ, ◌/◌, ◌%◌, nat_le, ◌&&◌, ◌||◌, Bool, List, [], ◌∷◌, if◌then◌else◌}
use Rattle.std.specs.List.{flat_map}
use Rattle.std.specs.Char.{encode_utf8, digit_char}
use Rattle.std.specs.Str.{chars}

abbrev pub is_from_to : ℕ → ℕ → ℕ → Bool
is_from_to low high c = nat_le low c && nat_le c high

-- controls, marks of direction, and separators of lines
abbrev pub is_hiding : ℕ → Bool
is_hiding c =
    is_from_to 0x7f 0x9f c
    || (is_from_to 0x61c 0x61c c || (is_from_to 0x200e 0x200f c || (is_from_to 0x2028 0x202e c || is_from_to 0x2066 0x2069 c)))

-- such a character is written as \u and four digits
abbrev pub escaped : ℕ → List ℕ
escaped c =
    92 ∷ 117 ∷ digit_char (c / 4096) ∷ digit_char (c / 256 % 16) ∷ digit_char (c / 16 % 16) ∷ digit_char (c % 16) ∷ []

abbrev pub shown_char : ℕ → List ℕ
shown_char c = if is_hiding c then escaped c else encode_utf8 c

unfoldable pub shown : List ℕ → List ℕ
shown text = flat_map shown_char (chars text)
