-- The calendar of `specs/Calendar.antt` is that of `jiff`.
use Rattle.std.proofs.Common.{◌≡◌, inl, inr, ℕ, zero, suc, ◌+◌, ◌*◌, ◌<◌, ◌≤◌, ℤ, pos, neg_ℤ, ◌+ℤ◌, ◌<ℤ◌, ◌≤ℤ◌, unsigned_abs, arith, refl, nat_lt, cond, true, false, Bool}
use Rattle.std.proofs.lemmas.Bool.{ltb-true, ltb-false, cases_lt}
use Rattle.jiff_core.specs.Calendar.{IsCivilDate, days_from_civil}
use Rattle.jiff_core.proofs.SignedLemmas.{signed_arith, one_part, unsigned_abs-parts}
use Rattle.jiff_core.proofs.CalendarLemmas.{days_from_civil-day_count}
use Rattle.jiff_core.proofs.MarchLemmas.{day_count-early}
use Rattle.jiff_core.proofs.DateLemmas.{days_from_civil-day, days_from_civil-next_month, days_from_civil-next_year}
use Rattle.jiff.proofs.Family.{days_from_civil-month}
use Rattle.office_days.proofs.MonthLengths.{month_length-bounds, month_length-jiff}
use Rattle.office_days.specs.Calendar.{CivilDay, IsDay, month_length, next_day, civil_after, civil, number_of}

-- 0001-01-01 lies that many days before 1970-01-01
pub first_number : days_from_civil (pos 1) 1 1 +ℤ pos 719_162 ≡ pos 0
first_number =
    let e = day_count-early (pos 1) 10_000 1 1 refl (omega arith) (omega arith) (omega arith) in
    omega (arith, signed_arith, days_from_civil-day_count (pos 1) 1 1, e)

-- a fact of a choice is one of each side
pub cond_holds : {A : Type 0} (P : A → Type 0) (b : Bool) (x y : A) → (b ≡ true → P x) → (b ≡ false → P y) → P (cond b x y)
cond_holds P true x y f g = f refl
cond_holds P false x y f g = g refl

Follows : CivilDay → CivilDay → Type 0
Follows c d = IsDay d × (number_of d ≡ number_of c +ℤ pos 1)

follows_in_month : (c : CivilDay) → IsDay c → c.day < month_length c.year c.month → Follows c (record c { day = c.day + 1 })
unfolding Follows
follows_in_month c h lt = (
  record { year_in = h.year_in; month_in = h.month_in; day_in = (omega arith, omega arith) },
  omega (arith, signed_arith, days_from_civil-day (pos c.year) c.month (c.day + 1) c.day (omega arith) h.day_in.0),
)

follows_month : (c : CivilDay) → IsDay c → month_length c.year c.month ≤ c.day → c.month < 12 → Follows c (record { year = c.year; month = c.month + 1; day = 1 })
unfolding Follows
follows_month c h end lt = (
  record { year_in = h.year_in; month_in = (omega arith, omega arith); day_in = (omega arith, omega (arith, month_length-bounds c.year (c.month + 1))) },
  days_from_civil-next_month (pos c.year) c.month c.day h.month_in.0 (omega (arith, h.day_in.1, end, month_length-jiff c.year c.month)),
)

follows_year : (c : CivilDay) → IsDay c → month_length c.year c.month ≤ c.day → 12 ≤ c.month → Follows c (record { year = c.year + 1; month = 1; day = 1 })
unfolding Follows
follows_year c h end le =
    let m : c.month ≡ 12 = omega (arith, h.month_in) in
    let d : c.day ≡ 31 = omega (arith, h.day_in, rw m at end, rw m at h.day_in) in
    let next = days_from_civil-next_year (pos c.year) (pos (c.year + 1)) (omega (arith, signed_arith)) (omega (arith, signed_arith)) in (
      record { year_in = omega arith; month_in = (omega arith, omega arith); day_in = (omega arith, omega arith) },
      rw (m, d) next,
    )

pub next_day-ok : (c : CivilDay) → IsDay c → IsDay (next_day c) × (number_of (next_day c) ≡ number_of c +ℤ pos 1)
unfolding Follows
next_day-ok c h =
    cond_holds (Follows c) (nat_lt c.day (month_length c.year c.month)) _ _
    (λ e. follows_in_month c h (ltb-true _ _ e))
    (λ e. cond_holds (Follows c) (nat_lt c.month 12) _ _
    (λ f. follows_month c h (ltb-false _ _ e) (ltb-true _ _ f))
    (λ f. follows_year c h (ltb-false _ _ e) (ltb-false _ _ f)))

-- the day n days after 0001-01-01 is a day of the calendar, with that number
pub civil_after-ok : (n : ℕ) → IsDay (civil_after n) × (number_of (civil_after n) +ℤ pos 719_162 ≡ pos n)
unfolding civil_after
civil_after-ok zero = (record { year_in = omega arith; month_in = (omega arith, omega arith); day_in = (omega arith, omega arith) }, first_number)
civil_after-ok (suc n) =
    let before = civil_after-ok n in
    let step = next_day-ok (civil_after n) before.0 in
    (step.0, omega (arith, signed_arith, before.1, step.1))

pub civil-day : (z : ℤ) → IsDay (civil z)
civil-day z = (civil_after-ok (unsigned_abs (z +ℤ pos 719_162))).0

pub number_of-civil : (z : ℤ) → neg_ℤ (pos 719_162) ≤ℤ z → number_of (civil z) ≡ z
number_of-civil z h =
    let w = z +ℤ pos 719_162 in
    let n = unsigned_abs w in
    let e : pos n ≡ w = omega (arith, signed_arith, one_part w, unsigned_abs-parts w, one_part (pos n)) in
    omega (arith, signed_arith, (civil_after-ok n).1, e)

-- the date that jiff has for a day of the calendar
pub day-civil_date : (c : CivilDay) → IsDay c → c.year ≤ 9999 → IsCivilDate (pos c.year) c.month c.day
day-civil_date c h y = ((omega (arith, signed_arith), omega (arith, signed_arith)), h.month_in, (h.day_in.0, rw (← month_length-jiff c.year c.month) h.day_in.1))

-- the days of two months come in the order of the months
pub number_of-month : (c d : CivilDay) → IsDay c → IsDay d → c.year ≤ 9999 → 12 * c.year + c.month < 12 * d.year + d.month → number_of c <ℤ number_of d
number_of-month c d hc hd y lt =
    days_from_civil-month (pos c.year) (pos d.year) c.month d.month c.day d.day (day-civil_date c hc y) hd.month_in.0 hd.month_in.1 hd.day_in.0 (omega (arith, signed_arith, hc.month_in, hd.month_in, lt))

pub record SameDay (c d : CivilDay) : Type 0 where
  pub year : c.year ≡ d.year
  pub month : c.month ≡ d.month
  pub day : c.day ≡ d.day

-- a number names one day
pub number_of-same : (c d : CivilDay) → IsDay c → IsDay d → d.year ≤ 9999 → number_of c ≡ number_of d → SameDay c d
number_of-same c d hc hd y e =
    let less : ¬ (12 * c.year + c.month < 12 * d.year + d.month) = λ lt. omega (arith, signed_arith, e, number_of-month c d hc hd (omega (arith, lt, hc.month_in, hd.month_in, y)) lt) in
    let more : ¬ (12 * d.year + d.month < 12 * c.year + c.month) = λ lt. omega (arith, signed_arith, e, number_of-month d c hd hc y lt) in
    let year : c.year ≡ d.year = omega (arith, less, more, hc.month_in, hd.month_in) in
    let month : c.month ≡ d.month = omega (arith, less, more, year) in
    record {
      year = year;
      month = month;
      day = omega (arith, signed_arith, rw (year, month) at e, days_from_civil-day (pos d.year) d.month c.day d.day hc.day_in.0 hd.day_in.0);
    }

pub same_day : (c d : CivilDay) → SameDay c d → c ≡ d
same_day c d h = rw (h.year, h.month, h.day) refl

-- the day with the number of a day
pub civil-number_of : (c : CivilDay) → IsDay c → c.year ≤ 9999 → neg_ℤ (pos 719_162) ≤ℤ number_of c → civil (number_of c) ≡ c
civil-number_of c h y low = same_day _ _ (number_of-same (civil (number_of c)) c (civil-day (number_of c)) h y (number_of-civil (number_of c) low))

-- days of one month come in the order of their places in it
pub number_of-in_month : (c d : CivilDay) → IsDay c → IsDay d → c.year ≡ d.year → c.month ≡ d.month → number_of c +ℤ pos d.day ≡ number_of d +ℤ pos c.day
number_of-in_month c d hc hd year month = rw (year, month) (days_from_civil-day (pos d.year) d.month c.day d.day hc.day_in.0 hd.day_in.0)

-- a day is not before one of an earlier month, or of an earlier place in its own
pub number_of-le : (c d : CivilDay) → IsDay c → IsDay d → c.year ≤ 9999 → 12 * c.year + c.month ≤ 12 * d.year + d.month → (12 * c.year + c.month ≡ 12 * d.year + d.month → c.day ≤ d.day) → number_of c ≤ℤ number_of d
number_of-le c d hc hd y le day =
    elim (cases_lt (12 * c.year + c.month) (12 * d.year + d.month)) [
      | inl lt ↦ omega (arith, signed_arith, number_of-month c d hc hd y lt)
      | inr ge ↦
          let e : 12 * c.year + c.month ≡ 12 * d.year + d.month = omega (arith, le, ge) in
          let year : c.year ≡ d.year = omega (arith, e, hc.month_in, hd.month_in) in
          let month : c.month ≡ d.month = omega (arith, e, year) in
          omega (arith, signed_arith, number_of-in_month c d hc hd year month, day e)
    ]
