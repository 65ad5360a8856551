-- How many days after its due day a record is to be confirmed, as people write it. Source: own.
use Rattle.std.specs.Prelude.{ℕ, List, nat_le, Option, Some, None, Result, Ok, Err, if◌then◌else◌}
use Rattle.office_base.specs.declared.refusal.Refusal.{Refusal}
use Rattle.office_base.specs.declared.refusal.Refusal.TheVariants.{BadText, BadNumber}
use Rattle.office_base.specs.Numerals.{number_named}

-- that many days, at most 3,650, where a text was read as a number
abbrev pub confirm_days_numbered : Option ℕ → Result ℕ Refusal
confirm_days_numbered None = Err BadText
confirm_days_numbered (Some n) = if nat_le n 3_650 then Ok n else Err BadNumber

-- the days that a text writes
abbrev pub confirm_days_named : List ℕ → Result ℕ Refusal
confirm_days_named text = confirm_days_numbered (number_named text)
