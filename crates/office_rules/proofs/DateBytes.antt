-- The bytes of a date are ASCII digits and hyphens, so they are a text.
use Rattle.std.proofs.Common.{ℕ, ◌<◌, ◌/◌, List, [], ◌∷◌, arith}
use Rattle.std.specs.List.{AllByRecursion}
use Rattle.std.specs.Str.{IsUtf8, IsAscii}
use Rattle.std.proofs.lemmas.Str.{IsUtf8-from_ascii}
use Rattle.std.proofs.lemmas.Str.Ascii.{IsAscii-cons, IsAscii-nil}
use Rattle.office_days.specs.Calendar.{CivilDay}
use Rattle.office_days.specs.Texts.{day_text, digit}

low : (n : ℕ) → digit n < 128
low n = omega arith

by_bytes : (bs : List ℕ) → AllByRecursion (λ b. b < 128) bs → IsAscii bs
by_bytes [] each = IsAscii-nil
by_bytes (b ∷ bs) each = IsAscii-cons b bs each.0 (by_bytes bs each.1)

pub date_is_text : (c : CivilDay) → IsUtf8 (day_text c)
date_is_text c =
    let hyphen : 45 < 128 = omega arith in
    IsUtf8-from_ascii (day_text c) (by_bytes (day_text c) (low (c.year / 1000), (low (c.year / 100), (low (c.year / 10), (low c.year, (hyphen, (low (c.month / 10), (low c.month, (hyphen, (low (c.day / 10), (low c.day, tt)))))))))))
