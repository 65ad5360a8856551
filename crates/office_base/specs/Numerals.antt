-- Whole numbers as people write them: one or more ASCII digits, leading zeros allowed. Source: own.
use Rattle.std.specs.Prelude.{ℕ, ◌&&◌, Bool, List, length, nat_lt, Option, Some, None, if◌then◌else◌}
use Rattle.std.specs.Char.{is_ascii_digit}
use Rattle.std.specs.List.{list_all}
use Rattle.std.specs.Str.Parse.{digits_value}

-- the text has a byte, and each is an ASCII digit
abbrev pub is_numeral : List ℕ → Bool
is_numeral text = nat_lt 0 (length text) && list_all is_ascii_digit text

-- the number that a text writes
abbrev pub number_named : List ℕ → Option ℕ
number_named text = if is_numeral text then Some (digits_value 10 text) else None
