-- The numbers in a head: the length of a body, and the number of a thing in a path.
use Rattle.std.specs.Prelude.{ℕ, ◌==◌, Bool, false, List, [], ◌∷◌, length, nat_lt, Option, None, if◌then◌else◌}
use Rattle.std.specs.Result.{result_ok}
use Rattle.office_base.specs.Numerals.{number_named}
use Rattle.office_base.specs.EntityNumbers.{entity_number}

-- the length that a field value says: 1 to 19 ASCII digits. Source: RFC 9110 section 8.6; the greatest number of digits
-- is own
abbrev pub content_length : List ℕ → Option ℕ
content_length value = if nat_lt 19 (length value) then None else number_named value

-- the first byte is the digit 0
abbrev pub begins_with_zero : List ℕ → Bool
begins_with_zero [] = false
begins_with_zero (byte ∷ rest) = byte == 48

-- the number that a segment of a path names: that of a thing, without leading zeros. Source: own
abbrev pub segment_number : List ℕ → Option ℕ
segment_number segment = if begins_with_zero segment then None else result_ok (entity_number segment)
