-- How days are written: YYYY-MM-DD, the extended form of ISO 8601.
use Rattle.std.specs.Prelude.{◌≡◌, pos, neg_ℤ, ◌≤ℤ◌, unsigned_abs, ℕ, ℤ, ◌+◌, ◌/◌, ◌%◌, List, [], ◌∷◌, ◌++◌, Option}
use Rattle.std.specs.Str.{bytes_eq}
use Rattle.jiff_core.specs.declared.civil.date.Date.{Date}
use Rattle.office_days.specs.Calendar.{CivilDay, civil}
use Rattle.office_days.specs.Search.{first_passing}

-- the last digit of a number, as an ASCII byte
abbrev pub digit : ℕ → ℕ
digit n = 48 + n % 10

abbrev pub two_digits : ℕ → List ℕ
two_digits n = digit (n / 10) ∷ digit n ∷ []

abbrev pub four_digits : ℕ → List ℕ
four_digits n = digit (n / 1000) ∷ digit (n / 100) ∷ digit (n / 10) ∷ digit n ∷ []

-- year, month and day with hyphens between, as in 2024-02-29
abbrev pub day_text : CivilDay → List ℕ
day_text c = four_digits c.year ++ 45 ∷ two_digits c.month ++ 45 ∷ two_digits c.day

-- the day that a text names: of the 1,095,362 days from 0001-01-01 to 2999-12-31 the one whose text it is
abbrev pub day_named : List ℕ → Option ℤ
day_named text = first_passing (λ d. bytes_eq text (day_text (civil d))) 1_095_362 (neg_ℤ (pos 719_162))

-- two bytes are the last two digits of a number
pub record IsTwo (a b n : ℕ) : Type 0 where
  pub tens : a ≡ digit (n / 10)
  pub ones : b ≡ digit n

-- four bytes are the last four
pub record IsFour (a b c d n : ℕ) : Type 0 where
  pub high : IsTwo a b (n / 100)
  pub low : IsTwo c d n

-- a date has these parts
pub record IsDayParts (date : Date) (year month day : ℕ) : Type 0 where
  pub low : pos 1 ≤ℤ date.year
  pub years : unsigned_abs date.year ≡ year
  pub months : date.month ≡ month
  pub days : date.day ≡ day
