-- The lengths of months are those of `jiff`.
use Rattle.std.proofs.Common.{◌≡◌, ℕ, pos, ◌≤◌, arith, sym, subst}
use Rattle.jiff_core.specs.Calendar.{is_leap_year as jiff_leap_year, days_in_month}
use Rattle.jiff_core.proofs.CalendarLemmas.{days_in_month_bounds}
use Rattle.office_days.specs.Calendar.{is_leap_year, month_length}

pub is_leap_year-jiff : (year : ℕ) → is_leap_year year ≡ jiff_leap_year (pos year)
is_leap_year-jiff year = grind arith

pub month_length-jiff : (year month : ℕ) → month_length year month ≡ days_in_month (pos year) month
month_length-jiff year month = grind (arith, is_leap_year-jiff year)

pub month_length-bounds : (year month : ℕ) → (28 ≤ month_length year month) × (month_length year month ≤ 31)
month_length-bounds year month =
    let bounds = days_in_month_bounds (pos year) month in
    let same = month_length-jiff year month in
    (subst (λ (n : ℕ). 28 ≤ n) (sym same) bounds.1, subst (λ (n : ℕ). n ≤ 31) (sym same) bounds.0)
