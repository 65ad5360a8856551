-- What a span of months and days does to a date.
use Rattle.std.proofs.Common.{◌≡◌, ◌⊎◌, inl, inr, ◌<ℤ◌, ℕ, ◌+◌, ◌-◌, ◌*◌, ◌/◌, ◌%◌, ◌<◌, ◌≤◌, ℤ, pos, neg_ℤ, ◌+ℤ◌, ◌*ℤ◌, ◌≤ℤ◌, unsigned_abs, min, ap, sym, subst, arith, refl}
use Rattle.jiff_core.specs.declared.civil.date.Date.{Date}
use Rattle.jiff_core.specs.declared.span.Span.{Span}
use Rattle.jiff_core.specs.declared.unit.Unit.{Unit as TimeUnit}
use Rattle.jiff_core.specs.declared.unit.Unit.TheVariants.{Hour, Minute, Second, Millisecond, Microsecond, Nanosecond}
use Rattle.jiff_core.specs.Calendar.{days_from_civil}
use Rattle.jiff_core.specs.Date.{epoch_day}
use Rattle.jiff_core.specs.Span.{IsOnly, span_months, span_days, clock_days}
use Rattle.jiff_core.specs.Units.{rank}
use Rattle.jiff_core.proofs.SignedLemmas.{signed_arith}
use Rattle.jiff_span.specs.Add.{date_add, CanAddToDate}
use Rattle.jiff_span.specs.Months.{add_months, month_number, shifted_year}
use Rattle.jiff_span.proofs.MonthLemmas.{add_months-zero, shift_parts}
use Rattle.jiff_span.proofs.DifferenceLemmas.{signed_zero}
use Rattle.office_days.specs.declared.unit.Unit.{Unit}
use Rattle.office_days.specs.declared.unit.Unit.TheVariants.{Days, Weeks, Months, Years}
use Rattle.office_days.specs.Calendar.{CivilDay, IsDay, civil as civil_day, day_of, month_index, month_length, number_of}
use Rattle.office_days.proofs.MonthLengths.{month_length-bounds, month_length-jiff}
use Rattle.office_days.specs.Limits.{IsDayNumber, longest}
use Rattle.office_days.specs.Spans.{months_in, days_in}
use Rattle.office_days.specs.Due.{end_of, months_later, plus, IsMonthsLater}
use Rattle.office_days.specs.Periods.{RetentionPeriod}
use Rattle.jiff_core.proofs.MarchLemmas.{day_count-late}
use Rattle.jiff_core.proofs.CalendarLemmas.{days_from_civil-day_count}
use Rattle.jiff_core.proofs.DateLemmas.{civil}
use Rattle.jiff.proofs.Family.{days_from_civil-month}
use Rattle.std.proofs.lemmas.Bool.{cases_lt}
use Rattle.office_days.proofs.Civil.{first_number, civil-day, civil-number_of, number_of-civil, number_of-le, number_of-month}
use Rattle.office_days.proofs.Dates.{year-back, civil-epoch_day, IsDay-day_of}
use Rattle.office_days.proofs.Moves.{number_of-low}

-- a span of one unit of days or more has no clock part
pub only-clock : (u : TimeUnit) (n : ℤ) (s : Span) → rank Hour < rank u → IsOnly u n s → clock_days s ≡ pos 0
only-clock u n s far h =
    let a = h.others Hour (omega (arith, far)) in
    let b = h.others Minute (omega (arith, far)) in
    let c = h.others Second (omega (arith, far)) in
    let d = h.others Millisecond (omega (arith, far)) in
    let e = h.others Microsecond (omega (arith, far)) in
    let f = h.others Nanosecond (omega (arith, far)) in
    signed_zero s.negative _ (omega (arith, a, b, c, d, e, f))

-- adding months is what `jiff` says
pub add_months-later : (d : Date) (n : ℕ) → pos 1 ≤ℤ d.year → add_months d (pos n) ≡ number_of (months_later (civil_day (epoch_day d)) n)
add_months-later d n low =
    let back = year-back d.year low in
    let i = month_index (day_of d) + n in
    let number : month_number d +ℤ pos n ≡ pos (i / 12) *ℤ pos 12 +ℤ pos (i % 12 + 1 - 1) = omega (arith, signed_arith, back, d.month_in) in
    let parts = shift_parts d (pos n) (pos (i / 12)) (i % 12 + 1) number (omega arith) (omega arith) in
    let long = sym (month_length-jiff (i / 12) (i % 12 + 1)) in
    rw (civil-epoch_day d low, parts.0, parts.1) (ap (λ (most : ℕ). days_from_civil (pos (i / 12)) (i % 12 + 1) (min d.day most)) long)

-- a period ends where its months and then its days lead
pub plus-span : (d : Date) (u : Unit) (n : ℕ) → pos 1 ≤ℤ d.year → add_months d (pos (months_in u n)) +ℤ pos (days_in u n) ≡ plus (epoch_day d) u n
plus-span d Days n low = rw (add_months-zero d) refl
plus-span d Weeks n low = rw (add_months-zero d) refl
plus-span d Months n low = rw (← add_months-later d n low) (omega (arith, signed_arith))
plus-span d Years n low = rw (← add_months-later d (12 * n) low) (omega (arith, signed_arith))

-- 2999-12-31 has that number
pub last_start : days_from_civil (pos 2999) 12 31 ≡ pos 376_199
last_start = omega (arith, signed_arith, day_count-late (pos 2999) 12_999 12 31 refl (omega arith) (omega arith) (omega arith), days_from_civil-day_count (pos 2999) 12 31)

-- a handed-in day has a year up to 2999
pub civil-year : (z : ℤ) → IsDayNumber z → (civil_day z).year ≤ 2999
civil-year z h = elim (cases_lt 2999 (civil_day z).year) [
  | inl more ↦
      let end : CivilDay = record { year = 2999; month = 12; day = 31 } in
      let there : IsDay end = record { year_in = omega arith; month_in = (omega arith, omega arith); day_in = (omega arith, omega arith) } in
      let lt = number_of-month end (civil_day z) there (civil-day z) (omega arith) (omega (arith, more, (civil-day z).month_in)) in
      absurd (omega (arith, signed_arith, lt, last_start, number_of-civil z h.0, h.1))
  | inr le ↦ le
]

last_end : days_from_civil (pos 3499) 12 31 ≡ pos 558_820
last_end = omega (arith, signed_arith, day_count-late (pos 3499) 13_499 12 31 refl (omega arith) (omega arith) (omega arith), days_from_civil-day_count (pos 3499) 12 31)

cases_le_int : (a b : ℤ) → (a ≤ℤ b) ⊎ (b <ℤ a)
cases_le_int a b = grind (arith, signed_arith)

-- a date from 0001-01-01 on has a year from 1 on
pub year-low : (d : Date) → neg_ℤ (pos 719_162) ≤ℤ epoch_day d → pos 1 ≤ℤ d.year
year-low d h = elim (cases_le_int (pos 1) d.year) [
  | inl le ↦ le
  | inr lt ↦ absurd (omega (arith, signed_arith, h, first_number, days_from_civil-month d.year (pos 1) d.month 1 d.day 1 (civil d) (omega arith) (omega arith) (omega arith) (omega (arith, signed_arith, lt, d.month_in))))
]

-- and one up to the end of a year has a year up to that
pub year-high : (d : Date) (y : ℕ) → 1 ≤ y → y ≤ 9999 → epoch_day d ≤ℤ days_from_civil (pos y) 12 31 → d.year ≤ℤ pos y
year-high d y one nines h = elim (cases_le_int d.year (pos y)) [
  | inl le ↦ le
  | inr lt ↦ absurd (omega (arith, signed_arith, h, days_from_civil-month (pos y) d.year 12 d.month 31 d.day ((omega (arith, signed_arith), omega (arith, signed_arith)), (omega arith, omega arith), (omega arith, omega arith)) d.month_in.0 d.month_in.1 d.day_in.0 (omega (arith, signed_arith, lt, d.month_in))))
]

-- a day some months later is a day of the calendar
pub months_later-day : (c : CivilDay) (n : ℕ) → IsDay c → IsDay (months_later c n)
months_later-day c n h =
    let i = month_index c + n in
    record {
      year_in = omega (arith, h.year_in);
      month_in = (omega arith, omega arith);
      day_in = (omega (arith, h.day_in, month_length-bounds (i / 12) (i % 12 + 1)), omega arith);
    }

-- where the months of a period from a handed-in day lead
months_later-bounds : (d : Date) (n : ℕ) → IsDayNumber (epoch_day d) → n ≤ 6000 → (neg_ℤ (pos 719_162) ≤ℤ number_of (months_later (civil_day (epoch_day d)) n)) × (number_of (months_later (civil_day (epoch_day d)) n) ≤ℤ pos 558_820)
months_later-bounds d n h le =
    let low = year-low d h.0 in
    let back = year-back d.year low in
    let high = year-high d 2999 (omega arith) (omega arith) (rw last_start h.1) in
    let y : unsigned_abs d.year ≤ 2999 = omega (arith, signed_arith, back, high) in
    let end : CivilDay = record { year = 3499; month = 12; day = 31 } in
    let there : IsDay end = record { year_in = omega arith; month_in = (omega arith, omega arith); day_in = (omega arith, omega arith) } in
    let later = months_later (day_of d) n in
    let here : IsDay later = months_later-day (day_of d) n (IsDay-day_of d low) in
    let years : later.year ≤ 3499 = omega (arith, y, le, d.month_in) in
    let most = number_of-le later end here there (omega (arith, years)) (omega (arith, years, here.month_in)) (λ e. omega (arith, here.day_in, month_length-bounds later.year later.month)) in
    rw (civil-epoch_day d low) (number_of-low later here (omega (arith, years)), omega (arith, signed_arith, most, last_end))

-- and where a period leads
pub plus-bounds : (d : Date) (u : Unit) (n : ℕ) → IsDayNumber (epoch_day d) → n ≤ longest u → (neg_ℤ (pos 719_162) ≤ℤ plus (epoch_day d) u n) × (plus (epoch_day d) u n ≤ℤ pos 558_820)
plus-bounds d Days n h le = (omega (arith, signed_arith, h), omega (arith, signed_arith, h, le))
plus-bounds d Weeks n h le = (omega (arith, signed_arith, h), omega (arith, signed_arith, h, le))
plus-bounds d Months n h le = months_later-bounds d n h le
plus-bounds d Years n h le = months_later-bounds d (12 * n) h (omega (arith, le))

months_in-bound : (u : Unit) (n : ℕ) → n ≤ longest u → months_in u n ≤ 6000
months_in-bound Days n le = omega arith
months_in-bound Weeks n le = omega arith
months_in-bound Months n le = le
months_in-bound Years n le = omega (arith, le)

-- `jiff` can add a period to a handed-in day
pub can_add : (d : Date) (s : Span) (u : Unit) (n : ℕ) → IsDayNumber (epoch_day d) → n ≤ longest u → span_months s ≡ pos (months_in u n) → span_days s ≡ pos (days_in u n) → clock_days s ≡ pos 0 → CanAddToDate d s × (date_add d s ≡ plus (epoch_day d) u n)
can_add d s u n h le months days clock =
    let low = year-low d h.0 in
    let e : date_add d s ≡ plus (epoch_day d) u n = rw (months, days, clock) (omega (arith, signed_arith, plus-span d u n low)) in
    let bounds = plus-bounds d u n h le in
    let few = months_in-bound u n le in
    let high = year-high d 2999 (omega arith) (omega arith) (rw last_start h.1) in
    let back = year-back d.year low in
    let i = month_index (day_of d) + months_in u n in
    let number : month_number d +ℤ pos (months_in u n) ≡ pos (i / 12) *ℤ pos 12 +ℤ pos (i % 12 + 1 - 1) = omega (arith, signed_arith, back, d.month_in) in
    let parts = shift_parts d (pos (months_in u n)) (pos (i / 12)) (i % 12 + 1) number (omega arith) (omega arith) in
    let year : shifted_year d (span_months s) ≡ pos (i / 12) = rw months parts.0 in
    let y : i / 12 ≤ 9999 = omega (arith, signed_arith, back, high, few, d.month_in) in
    (((omega (arith, signed_arith, year), omega (arith, signed_arith, year, y)), (omega (arith, signed_arith, e, bounds), omega (arith, signed_arith, e, bounds))), e)

-- the year in which a period from a handed-in day ends
pub end-year : (d r : Date) (u : Unit) (n : ℕ) → IsDayNumber (epoch_day d) → n ≤ longest u → epoch_day r ≡ plus (epoch_day d) u n → (pos 1 ≤ℤ r.year) × (r.year ≤ℤ pos 3499)
end-year d r u n h le e =
    let bounds = plus-bounds d u n h le in
    (year-low r (rw e bounds.0), year-high r 3499 (omega arith) (omega arith) (rw (last_end, e) bounds.1))

-- a day some months after a handed-in day
pub months_later-is : (start : ℤ) (n : ℕ) → IsDayNumber start → n ≤ 6000 → IsMonthsLater n (civil_day start) (civil_day (number_of (months_later (civil_day start) n)))
months_later-is start n h le =
    let c = civil_day start in
    let later = months_later c n in
    let y = civil-year start h in
    let there = months_later-day c n (civil-day start) in
    let month = (civil-day start).month_in in
    let years : later.year ≤ 9999 = omega (arith, y, le, month) in
    let back = civil-number_of later there years (number_of-low later there years) in
    let most = month_length later.year later.month in
    let is : IsMonthsLater n c later = record {
      in_calendar = there;
      in_month = omega arith;
      on_day = elim (cases_lt most c.day) [
        | inl short ↦ inr (omega (arith, short), omega (arith, short))
        | inr long ↦ inl (omega (arith, long))
      ];
    } in
    subst (λ (d : CivilDay). IsMonthsLater n c d) (sym back) is

pub end_of-months : (start : ℤ) (period : RetentionPeriod) → IsDayNumber start → period.count ≤ longest period.unit → period.unit ≡ Months → IsMonthsLater period.count (civil_day start) (civil_day (end_of start period))
end_of-months start period h le e =
    let few : period.count ≤ 6000 = subst (λ (u : Unit). period.count ≤ longest u) e le in
    subst (λ (u : Unit). IsMonthsLater period.count (civil_day start) (civil_day (plus start u period.count))) (sym e) (months_later-is start period.count h few)

pub end_of-years : (start : ℤ) (period : RetentionPeriod) → IsDayNumber start → period.count ≤ longest period.unit → period.unit ≡ Years → IsMonthsLater (12 * period.count) (civil_day start) (civil_day (end_of start period))
end_of-years start period h le e =
    let few : period.count ≤ 500 = subst (λ (u : Unit). period.count ≤ longest u) e le in
    subst (λ (u : Unit). IsMonthsLater (12 * period.count) (civil_day start) (civil_day (plus start u period.count))) (sym e) (months_later-is start (12 * period.count) h (omega (arith, few)))
