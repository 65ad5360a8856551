-- How the parts of a line are read, and why they are refused: 2 (BadText) where any part is not of its form, else 3
-- (BadNumber) where a number is out of range. Source: own.
use Rattle.std.specs.Prelude.{ℕ, List, Option, Some, None, Result, Ok, Err, codes, nat_le, if◌then◌else◌}
use Rattle.std.specs.Str.{bytes_eq}
use Rattle.office_base.specs.declared.refusal.Refusal.{Refusal}
use Rattle.office_base.specs.declared.refusal.Refusal.TheVariants.{BadText, BadNumber}
use Rattle.office_days.specs.declared.unit.Unit.{Unit}
use Rattle.office_days.specs.Limits.{longest}
use Rattle.office_base.specs.Numerals.{number_named}
use Rattle.office_days.specs.Periods.{RetentionPeriod}
use Rattle.office_base.specs.Refusals.{refusal_number}
use Rattle.office_days.specs.Words.{unit_named}
use Rattle.office_records.specs.Codes.{code_named}

-- both parts, or the refusal with the least number
abbrev pub both : {A B : Type 0} → Result A Refusal → Result B Refusal → Result (A × B) Refusal
both (Ok a) (Ok b) = Ok (a, b)
both (Ok a) (Err f) = Err f
both (Err e) (Ok b) = Err e
both (Err e) (Err f) = if nat_le (refusal_number e) (refusal_number f) then Err e else Err f

-- what is made of a part that was read
abbrev pub made : {A B : Type 0} → (A → B) → Result A Refusal → Result B Refusal
made f (Ok a) = Ok (f a)
made f (Err e) = Err e

-- a word that names something
abbrev pub named_part : {A : Type 0} → Option A → Result A Refusal
named_part None = Err BadText
named_part (Some a) = Ok a

-- a code; the word `-` is none here, although it has the form of a code
abbrev pub code_part : List ℕ → Result (List ℕ) Refusal
code_part word = if bytes_eq word (codes "-") then Err BadText else named_part (code_named word)

-- a part that may be left out, as `-`
abbrev pub optional_part : {A : Type 0} → (List ℕ → Result A Refusal) → List ℕ → Result (Option A) Refusal
optional_part read word = if bytes_eq word (codes "-") then Ok None else made (λ a. Some a) (read word)

abbrev pub period_read : Option Unit → Option ℕ → Result RetentionPeriod Refusal
period_read (Some unit) (Some count) =
    if nat_le count (longest unit) then Ok (record { unit = unit; count = count }) else Err BadNumber
period_read (Some unit) None = Err BadText
period_read None count = Err BadText

-- a period: a unit, and a count within the unit's limit
unfoldable pub period_part : List ℕ → List ℕ → Result RetentionPeriod Refusal
period_part unit count = period_read (unit_named unit) (number_named count)
