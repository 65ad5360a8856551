-- The days that a calendar offset asks for. Source: MoReq2010, disposal scheduling service, has the offset; these four
-- kinds are own.
use Rattle.std.specs.Prelude.{ℕ, ◌+◌, ◌%◌, Bool, true, ◌&&◌, ◌||◌, ◌==◌, ◌≡◌, Option, unwrap_or, ℤ, ◌≤ℤ◌}
use Rattle.office_days.specs.declared.month.Month.{Month}
use Rattle.office_days.specs.declared.month.Month.TheVariants.{January, February, March, April, May, June, July, August, September, October, November, December}
use Rattle.office_days.specs.declared.offset.Offset.{Offset}
use Rattle.office_days.specs.declared.offset.Offset.TheVariants.{AnyDay, FirstOfMonth, FirstOfQuarter, FirstOf}
use Rattle.office_days.specs.Calendar.{CivilDay, civil}
use Rattle.office_days.specs.Search.{first_passing}

-- January is 1 and December 12
abbrev pub month_number : Month → ℕ
month_number January = 1
month_number February = 2
month_number March = 3
month_number April = 4
month_number May = 5
month_number June = 6
month_number July = 7
month_number August = 8
month_number September = 9
month_number October = 10
month_number November = 11
month_number December = 12

-- the day has the offset's property: any day, the first of a month, of a quarter's first month, of that month
abbrev pub is_offset_day : Offset → CivilDay → Bool
is_offset_day AnyDay c = true
is_offset_day FirstOfMonth c = c.day == 1
is_offset_day FirstOfQuarter c = (c.day == 1) && ((c.month == 1) || (c.month == 4) || (c.month == 7) || (c.month == 10))
is_offset_day (FirstOf m) c = (c.day == 1) && (c.month == month_number m)

-- the least day not before a day that has the offset's property; one of the next 800 has it
abbrev pub offset_found : Offset → ℤ → Option ℤ
offset_found offset day = first_passing (λ d. is_offset_day offset (civil d)) 800 day

-- that day
abbrev pub offset_from : Offset → ℤ → ℤ
offset_from offset day = unwrap_or (offset_found offset day) day

-- the same in the words of the rule: not before the day, of the offset's days, and no other of them is earlier
pub record IsLeastFrom (offset : Offset) (from day : ℤ) : Type 0 where
  pub not_before : from ≤ℤ day
  pub has_property : is_offset_day offset (civil day) ≡ true
  pub least : (other : ℤ) → from ≤ℤ other → is_offset_day offset (civil other) ≡ true → day ≤ℤ other

-- the offset's days are the first days of these months, which are counted from January of the year 0
abbrev pub is_offset_month : Offset → ℕ → Bool
is_offset_month AnyDay i = true
is_offset_month FirstOfMonth i = true
is_offset_month FirstOfQuarter i = i % 3 == 0
is_offset_month (FirstOf m) i = i % 12 + 1 == month_number m
