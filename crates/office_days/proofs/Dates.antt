-- Days of `specs/Calendar.antt` and dates of `jiff`.
use Rattle.std.proofs.lemmas.Bool.{cases_eq}
use Rattle.office_days.specs.declared.offset.Offset.{Offset}
use Rattle.office_days.specs.declared.offset.Offset.TheVariants.{AnyDay, FirstOfMonth, FirstOfQuarter, FirstOf}
use Rattle.office_days.specs.Offsets.{is_offset_month}
use Rattle.std.proofs.Common.{◌≡◌, ◌≢◌, inl, inr, true, false, ◌<◌, ◌/◌, ◌%◌, ℕ, ◌+◌, ◌≤◌, ℤ, pos, neg_ℤ, ◌≤ℤ◌, unsigned_abs, arith, refl, sym, subst}
use Rattle.std.specs.Int.{IsInRange}
use Rattle.jiff_core.specs.Calendar.{days_in_month}
use Rattle.jiff_core.proofs.SignedLemmas.{signed_arith, one_part, unsigned_abs-parts}
use Rattle.jiff_core.specs.declared.civil.date.Date.{Date}
use Rattle.jiff_core.specs.Date.{epoch_day}
use Rattle.office_days.specs.Calendar.{IsDay, civil, day_of, month_index, number_of}
use Rattle.office_days.proofs.MonthLengths.{month_length-jiff}
use Rattle.office_days.proofs.Civil.{civil-number_of, number_of-le}
use Rattle.office_days.proofs.Moves.{number_of-low, IsMonthly, LandsAt, last_day, IsDay-last, number_of-last}

pub year-back : (y : ℤ) → pos 1 ≤ℤ y → pos (unsigned_abs y) ≡ y
year-back y h = omega (arith, signed_arith, one_part y, unsigned_abs-parts y, one_part (pos (unsigned_abs y)))

pub IsDay-day_of : (d : Date) → pos 1 ≤ℤ d.year → IsDay (day_of d)
IsDay-day_of d h =
    let long = subst (λ (y : ℤ). IsInRange 1 (days_in_month y d.month) d.day) (sym (year-back d.year h)) d.day_in in
    record { year_in = omega (arith, signed_arith, h, year-back d.year h); month_in = d.month_in; day_in = (long.0, subst (λ (n : ℕ). d.day ≤ n) (sym (month_length-jiff (unsigned_abs d.year) d.month)) long.1) }

pub number_of-day_of : (d : Date) → pos 1 ≤ℤ d.year → number_of (day_of d) ≡ epoch_day d
number_of-day_of d h = rw (year-back d.year h) refl

pub civil-epoch_day : (d : Date) → pos 1 ≤ℤ d.year → civil (epoch_day d) ≡ day_of d
civil-epoch_day d h =
    let day = IsDay-day_of d h in
    let y : unsigned_abs d.year ≤ 9999 = omega (arith, signed_arith, d.year_in, h, year-back d.year h) in
    rw (number_of-day_of d h) at (civil-number_of (day_of d) day y (number_of-low (day_of d) day y))

monthly : (o : Offset) → (o ≡ AnyDay → ⊥) → IsMonthly o
monthly AnyDay n = n refl
monthly FirstOfMonth n = tt
monthly FirstOfQuarter n = tt
monthly (FirstOf m) n = tt

-- what the months say of two dates
pub lands_by_months : (o : Offset) (d r : Date) (from to : ℕ) → (o ≡ AnyDay → ⊥) → pos 1 ≤ℤ d.year → d.year ≤ℤ pos 3499 → (d.day ≡ 1 → from ≡ month_index (day_of d)) → (d.day ≢ 1 → from ≡ month_index (day_of d) + 1) → is_offset_month o to ≡ true → ((i : ℕ) → from ≤ i → i < to → is_offset_month o i ≡ false) → from ≤ to → to < from + 12 → r.year ≡ pos (to / 12) → r.month ≡ to % 12 + 1 → r.day ≡ 1 → LandsAt o (day_of d) (day_of r) × (pos 1 ≤ℤ r.year) × (unsigned_abs r.year ≤ 3500)
lands_by_months o d r from to any low high same later lands before le lt ry rm rd =
    let e = year-back d.year low in
    let y : unsigned_abs r.year ≡ to / 12 = rw ry refl in
    let index : month_index (day_of r) ≡ to = omega (arith, y, rm) in
    let start : month_index (day_of d) ≤ from = elim (cases_eq d.day 1) [ inl one ↦ omega (arith, same one) | inr ne ↦ omega (arith, later ne) ] in
    let close : from ≤ month_index (day_of d) + 1 = elim (cases_eq d.day 1) [ inl one ↦ omega (arith, same one) | inr ne ↦ omega (arith, later ne) ] in
    let dy : 1 ≤ unsigned_abs d.year = omega (arith, signed_arith, low, e) in
    let dh : unsigned_abs d.year ≤ 3499 = omega (arith, signed_arith, high, e) in
    let rlow : pos 1 ≤ℤ r.year = rw ry (omega (arith, signed_arith, start, le, dy)) in (
      record {
        monthly = monthly o any;
        from_day = IsDay-day_of d low;
        from_year = dh;
        to_day = IsDay-day_of r rlow;
        first = rd;
        lands = rw index lands;
        same = λ one. omega (arith, index, same one, le);
        later = λ ne. omega (arith, index, later ne, le);
        soon = omega (arith, index, close, lt);
        none_same = λ one i a b. before i (omega (arith, same one, a)) (omega (arith, index, b));
        none_later = λ ne i a b. before i (omega (arith, later ne, a)) (omega (arith, index, b));
      },
      rlow,
      omega (arith, y, lt, close, dh, d.month_in),
    )

-- a date of the library's first 3499 years comes before the last due day
pub epoch_day-high : (d : Date) → pos 1 ≤ℤ d.year → d.year ≤ℤ pos 3499 → epoch_day d ≤ℤ pos 559_155
epoch_day-high d low high =
    let e = year-back d.year low in
    let day = IsDay-day_of d low in
    let le = number_of-le (day_of d) last_day day IsDay-last (omega (arith, signed_arith, e, high)) (omega (arith, signed_arith, e, high, d.month_in)) (λ same. absurd (omega (arith, signed_arith, e, high, d.month_in, same))) in
    omega (arith, signed_arith, number_of-day_of d low, le, number_of-last)

-- a date of the year 1 or later is not before 0001-01-01
pub epoch_day-low : (d : Date) → pos 1 ≤ℤ d.year → neg_ℤ (pos 719_162) ≤ℤ epoch_day d
epoch_day-low d low =
    let y : unsigned_abs d.year ≤ 9999 = omega (arith, signed_arith, d.year_in, low, year-back d.year low) in
    rw (← number_of-day_of d low) (number_of-low (day_of d) (IsDay-day_of d low) y)
