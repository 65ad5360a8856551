-- The proleptic Gregorian calendar from 0001-01-01 on, reported by which day follows each day.
-- Source: the calendar of ISO 8601, in which ISO 15489-1 and MoReq2010 write their dates; the form is own.
use Rattle.std.specs.Prelude.{ℕ, zero, suc, ◌+◌, ◌-◌, ◌*◌, ◌≤◌, ◌%◌, Bool, not, ◌&&◌, ◌||◌, ◌==◌, nat_lt, if◌then◌else◌, ℤ, pos, ◌+ℤ◌, unsigned_abs}
use Rattle.std.specs.Int.{IsInRange}
use Rattle.jiff_core.specs.declared.civil.date.Date.{Date}
use Rattle.jiff_core.specs.Calendar.{days_from_civil}

pub record CivilDay : Type 0 where
  pub year : ℕ
  pub month : ℕ
  pub day : ℕ

-- a leap year is divisible by 4 and not by 100, or divisible by 400
abbrev pub is_leap_year : ℕ → Bool
is_leap_year year = ((year % 4 == 0) && not (year % 100 == 0)) || (year % 400 == 0)

-- April, June, September and November have 30 days, February has 28, in a leap year 29, and the others have 31
abbrev pub month_length : ℕ → ℕ → ℕ
month_length year month =
    if (month == 4) || (month == 6) || (month == 9) || (month == 11) then 30
    else (if month == 2 then (if is_leap_year year then 29 else 28) else 31)

-- the calendar has that day
pub record IsDay (c : CivilDay) : Type 0 where
  pub year_in : 1 ≤ c.year
  pub month_in : IsInRange 1 12 c.month
  pub day_in : IsInRange 1 (month_length c.year c.month) c.day

-- the day after a day: the next of the month, else the first of the next month, else the first of the next year
abbrev pub next_day : CivilDay → CivilDay
next_day c =
    if nat_lt c.day (month_length c.year c.month) then record c { day = c.day + 1 }
    else (if nat_lt c.month 12 then record { year = c.year; month = c.month + 1; day = 1 }
    else record { year = c.year + 1; month = 1; day = 1 })

-- the day that lies n days after 0001-01-01
unfoldable pub civil_after : ℕ → CivilDay
civil_after zero = record { year = 1; month = 1; day = 1 }
civil_after (suc n) = next_day (civil_after n)

-- the day with that day number, where 1970-01-01 is 0 and so 0001-01-01 is -719162
abbrev pub civil : ℤ → CivilDay
civil number = civil_after (unsigned_abs (number +ℤ pos 719_162))

-- the day number of a day of the calendar, as `jiff` counts days
abbrev pub number_of : CivilDay → ℤ
number_of c = days_from_civil (pos c.year) c.month c.day

-- the day that a date of `jiff` is, from the year 1 on
abbrev pub day_of : Date → CivilDay
day_of d = record { year = unsigned_abs d.year; month = d.month; day = d.day }

-- how many months lie from January of the year 0 to a day's month
abbrev pub month_index : CivilDay → ℕ
month_index c = 12 * c.year + (c.month - 1)
