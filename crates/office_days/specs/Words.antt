-- The words for units and offsets. Source: own.
use Rattle.std.specs.Prelude.{List, [], ◌∷◌, ℕ, Option, codes}
use Rattle.std.specs.List.{find}
use Rattle.std.specs.Str.{bytes_eq}
use Rattle.office_days.specs.declared.month.Month.TheVariants.{January, February, March, April, May, June, July, August, September, October, November, December}
use Rattle.office_days.specs.declared.offset.Offset.{Offset}
use Rattle.office_days.specs.declared.offset.Offset.TheVariants.{AnyDay, FirstOfMonth, FirstOfQuarter, FirstOf}
use Rattle.office_days.specs.declared.unit.Unit.{Unit}
use Rattle.office_days.specs.declared.unit.Unit.TheVariants.{Days, Weeks, Months, Years}

-- the word for each unit
abbrev pub unit_word : Unit → List ℕ
unit_word Days = codes "days"
unit_word Weeks = codes "weeks"
unit_word Months = codes "months"
unit_word Years = codes "years"

-- the unit that a text names: the one whose word it is
abbrev pub unit_named : List ℕ → Option Unit
unit_named text = find (λ unit. bytes_eq text (unit_word unit)) (Days ∷ Weeks ∷ Months ∷ Years ∷ [])

-- the word for each offset
abbrev pub offset_word : Offset → List ℕ
offset_word AnyDay = codes "none"
offset_word FirstOfMonth = codes "month"
offset_word FirstOfQuarter = codes "quarter"
offset_word (FirstOf January) = codes "from-month-1"
offset_word (FirstOf February) = codes "from-month-2"
offset_word (FirstOf March) = codes "from-month-3"
offset_word (FirstOf April) = codes "from-month-4"
offset_word (FirstOf May) = codes "from-month-5"
offset_word (FirstOf June) = codes "from-month-6"
offset_word (FirstOf July) = codes "from-month-7"
offset_word (FirstOf August) = codes "from-month-8"
offset_word (FirstOf September) = codes "from-month-9"
offset_word (FirstOf October) = codes "from-month-10"
offset_word (FirstOf November) = codes "from-month-11"
offset_word (FirstOf December) = codes "from-month-12"

-- the fifteen offsets that there are
abbrev pub all_offsets : List Offset
all_offsets =
    AnyDay ∷ FirstOfMonth ∷ FirstOfQuarter
    ∷ FirstOf January ∷ FirstOf February ∷ FirstOf March ∷ FirstOf April ∷ FirstOf May ∷ FirstOf June
    ∷ FirstOf July ∷ FirstOf August ∷ FirstOf September ∷ FirstOf October ∷ FirstOf November ∷ FirstOf December ∷ []

-- the offset that a text names: the one whose word it is
abbrev pub offset_named : List ℕ → Option Offset
offset_named text = find (λ offset. bytes_eq text (offset_word offset)) all_offsets
