-- The first day that an offset moves to, reported by months.
use Rattle.std.proofs.Common.{◌≡◌, ◌≢◌, inl, inr, ℕ, ◌+◌, ◌-◌, ◌*◌, ◌%◌, ◌<◌, ◌≤◌, ℤ, pos, neg_ℤ, ◌+ℤ◌, ◌-ℤ◌, ◌<ℤ◌, ◌≤ℤ◌, unsigned_abs, arith, refl, Some, ap, sym, ◌∙◌, subst, true, false, Bool, ◌==◌, ◌||◌}
use Rattle.jiff_core.proofs.SignedLemmas.{signed_arith, one_part, unsigned_abs-parts}
use Rattle.std.proofs.lemmas.Bool.{cases_lt, cases_eq}
use Rattle.jiff_core.specs.Calendar.{day_count}
use Rattle.jiff_core.proofs.CalendarLemmas.{days_from_civil-day_count, day_count-day_of_year, day_count-next_year, day_of_year_bound, days_in_year_bounds}
use Rattle.jiff_core.proofs.MarchLemmas.{day_count-late}
use Rattle.office_days.specs.declared.offset.Offset.{Offset}
use Rattle.office_days.specs.declared.offset.Offset.TheVariants.{AnyDay, FirstOfMonth, FirstOfQuarter, FirstOf}
use Rattle.office_days.specs.Calendar.{CivilDay, IsDay, civil, month_index, number_of}
use Rattle.office_days.specs.Offsets.{is_offset_month, is_offset_day, offset_found, IsLeastFrom}
use Rattle.office_days.proofs.Civil.{civil-day, number_of-civil, civil-number_of, number_of-month, number_of-le, number_of-in_month, day-civil_date, first_number}
use Rattle.office_days.proofs.FirstPassing.{first_passing-is, first_passing-least}

-- the offset is one that moves to the first of some months
abbrev pub IsMonthly : Offset → Type 0
IsMonthly AnyDay = ⊥
IsMonthly FirstOfMonth = Unit {0}
IsMonthly FirstOfQuarter = Unit {0}
IsMonthly (FirstOf m) = Unit {0}

is_quarter : (m : ℕ) → 1 ≤ m → m ≤ 12 → ((m == 1) || (m == 4) || (m == 7) || (m == 10)) ≡ ((m - 1) % 3 == 0)
is_quarter m a b = grind arith

landing-first : (o : Offset) (c : CivilDay) → IsMonthly o → IsDay c → c.day ≡ 1 → is_offset_day o c ≡ is_offset_month o (month_index c)
landing-first AnyDay c o h e = absurd o
landing-first FirstOfMonth c o h e = rw e refl
landing-first FirstOfQuarter c o h e =
    let third : (12 * c.year + (c.month - 1)) % 3 ≡ (c.month - 1) % 3 = omega arith in
    rw (e, third) (is_quarter c.month h.month_in.0 h.month_in.1)
landing-first (FirstOf m) c o h e =
    let back : (12 * c.year + (c.month - 1)) % 12 + 1 ≡ c.month = omega (arith, h.month_in) in
    rw (e, back) refl

landing-later : (o : Offset) (c : CivilDay) → IsMonthly o → c.day ≢ 1 → is_offset_day o c ≡ false
landing-later AnyDay c o ne = absurd o
landing-later FirstOfMonth c o ne = grind arith
landing-later FirstOfQuarter c o ne = grind arith
landing-later (FirstOf m) c o ne = grind arith

-- the first month in which a day of that offset can lie, from a day on
pub record LandsAt (o : Offset) (c r : CivilDay) : Type 0 where
  pub monthly : IsMonthly o
  pub from_day : IsDay c
  pub from_year : c.year ≤ 3499
  pub to_day : IsDay r
  pub first : r.day ≡ 1
  pub lands : is_offset_month o (month_index r) ≡ true
  pub same : c.day ≡ 1 → month_index c ≤ month_index r
  pub later : c.day ≢ 1 → month_index c < month_index r
  pub soon : month_index r ≤ month_index c + 12
  pub none_same : c.day ≡ 1 → (i : ℕ) → month_index c ≤ i → i < month_index r → is_offset_month o i ≡ false
  pub none_later : c.day ≢ 1 → (i : ℕ) → month_index c < i → i < month_index r → is_offset_month o i ≡ false

first : CivilDay
first = record { year = 1; month = 1; day = 1 }

-- no day comes before 0001-01-01
pub number_of-low : (c : CivilDay) → IsDay c → c.year ≤ 9999 → neg_ℤ (pos 719_162) ≤ℤ number_of c
unfolding first
number_of-low c h y =
    let one : IsDay first = record { year_in = omega arith; month_in = (omega arith, omega arith); day_in = (omega arith, omega arith) } in
    let le = number_of-le first c one h (omega arith) (omega (arith, h.year_in, h.month_in)) (λ e. h.day_in.0) in
    omega (arith, signed_arith, le, first_number)

-- the last due day
abbrev pub last_day : CivilDay
last_day = record { year = 3500; month = 12; day = 1 }

pub IsDay-last : IsDay last_day
IsDay-last = record { year_in = omega arith; month_in = (omega arith, omega arith); day_in = (omega arith, omega arith) }

pub number_of-last : number_of last_day ≡ pos 559_155
number_of-last =
    let n = day_count-late (pos 3500) 13_500 12 1 refl (omega arith) (omega arith) (omega arith) in
    omega (arith, signed_arith, n, days_from_civil-day_count (pos 3500) 12 1)

-- the first of a month up to December 3500 is not after the last due day
pub number_of-high : (c : CivilDay) → IsDay c → c.day ≡ 1 → c.year ≤ 3500 → number_of c ≤ℤ pos 559_155
number_of-high c h one y =
    let le = number_of-le c last_day h IsDay-last (omega (arith, y)) (omega (arith, y, h.month_in)) (λ e. omega (arith, one)) in
    omega (arith, signed_arith, le, number_of-last)

-- the landing is not before the day
pub lands_after : (o : Offset) (c r : CivilDay) → LandsAt o c r → number_of c ≤ℤ number_of r
lands_after o c r h =
    let later : c.day ≢ 1 → month_index c < month_index r = h.later in
    elim (cases_eq c.day 1) [
      | inl one ↦ number_of-le c r h.from_day h.to_day (omega (arith, h.from_year)) (omega (arith, h.same one, h.from_day.month_in, h.to_day.month_in)) (λ e. omega (arith, one, h.to_day.day_in))
      | inr ne ↦ number_of-le c r h.from_day h.to_day (omega (arith, h.from_year)) (omega (arith, h.later ne, h.from_day.month_in, h.to_day.month_in)) (λ e. omega (arith, h.later ne, e, h.from_day.month_in, h.to_day.month_in))
    ]

-- and at most two years later
pub lands_soon : (o : Offset) (c r : CivilDay) → LandsAt o c r → number_of r <ℤ (number_of c +ℤ pos 800)
lands_soon o c r h =
    let cy : c.year ≤ 9999 = omega (arith, h.from_year) in
    let ry : r.year ≤ c.year + 1 = omega (arith, h.soon, h.from_day.month_in, h.to_day.month_in) in
    let here = day_count-day_of_year (pos c.year) c.month c.day h.from_day.day_in.0 in
    let there = day_count-day_of_year (pos r.year) r.month r.day h.to_day.day_in.0 in
    let bound = day_of_year_bound (pos r.year) r.month r.day (day-civil_date r h.to_day (omega (arith, h.from_year, ry))) in
    let long = days_in_year_bounds (pos r.year) in
    let long2 = days_in_year_bounds (pos c.year) in
    let n = days_from_civil-day_count (pos c.year) c.month c.day in
    let m = days_from_civil-day_count (pos r.year) r.month r.day in
    let le = lands_after o c r h in
    elim (cases_lt c.year r.year) [
      | inl lt ↦
          let e : r.year ≡ c.year + 1 = omega (arith, lt, ry) in
          let next = day_count-next_year (pos c.year) (pos r.year) (omega (arith, signed_arith)) (omega (arith, signed_arith, e)) in
          omega (arith, signed_arith, here, there, bound, long, long2, next, n, m)
      | inr ge ↦
          let index : month_index c ≤ month_index r = elim (cases_eq c.day 1) [ inl one ↦ h.same one | inr ne ↦ omega (arith, h.later ne) ] in
          let e : r.year ≡ c.year = omega (arith, ge, index, h.from_day.month_in, h.to_day.month_in) in
          let same : day_count (pos r.year) 1 1 ≡ day_count (pos c.year) 1 1 = rw e refl in
          omega (arith, signed_arith, here, there, bound, long, long2, same, n, m)
    ]

-- no day between them is one of the offset
pub lands_first : (o : Offset) (c r d : CivilDay) → LandsAt o c r → IsDay d → number_of c ≤ℤ number_of d → number_of d <ℤ number_of r → is_offset_day o d ≡ false
lands_first o c r d h hd low high =
    let ry : r.year ≤ 9999 = omega (arith, h.soon, h.from_year, h.from_day.month_in, h.to_day.month_in) in
    elim (cases_eq d.day 1) [
      | inl one ↦
          let before : month_index d < month_index r = elim (cases_lt (month_index d) (month_index r)) [
            | inl lt ↦ lt
            | inr ge ↦
                let le = number_of-le r d h.to_day hd ry (omega (arith, ge, hd.month_in, h.to_day.month_in)) (λ e. omega (arith, one, h.first)) in
                absurd (omega (arith, signed_arith, le, high))
          ] in
          let y : d.year ≤ 9999 = omega (arith, before, ry, hd.month_in, h.to_day.month_in) in
          let after : month_index c ≤ month_index d = elim (cases_lt (month_index d) (month_index c)) [
            | inl lt ↦ absurd (omega (arith, signed_arith, low, number_of-month d c hd h.from_day y (omega (arith, lt, hd.month_in, h.from_day.month_in))))
            | inr ge ↦ ge
          ] in
          landing-first o d h.monthly hd one ∙ elim (cases_eq c.day 1) [
            | inl at ↦ h.none_same at (month_index d) after before
            | inr ne ↦
                let strictly : month_index c < month_index d = elim (cases_lt (month_index c) (month_index d)) [
                  | inl lt ↦ lt
                  | inr ge ↦
                      let year : c.year ≡ d.year = omega (arith, after, ge, hd.month_in, h.from_day.month_in) in
                      let month : c.month ≡ d.month = omega (arith, after, ge, year, hd.month_in, h.from_day.month_in) in
                      absurd (omega (arith, signed_arith, low, number_of-in_month c d h.from_day hd year month, one, ne, h.from_day.day_in))
                ] in
                h.none_later ne (month_index d) strictly before
          ]
      | inr ne ↦ landing-later o d h.monthly ne
    ]

-- so the landing is what is found
pub offset_found-lands : (o : Offset) (c r : CivilDay) → LandsAt o c r → offset_found o (number_of c) ≡ Some (number_of r)
offset_found-lands o c r h =
    let cy : c.year ≤ 9999 = omega (arith, h.from_year) in
    let ry : r.year ≤ 9999 = omega (arith, h.soon, h.from_year, h.from_day.month_in, h.to_day.month_in) in
    let low = number_of-low c h.from_day cy in
    let gap = number_of r -ℤ number_of c in
    let k = unsigned_abs gap in
    let after = lands_after o c r h in
    let soon = lands_soon o c r h in
    let e : number_of c +ℤ pos k ≡ number_of r = omega (arith, signed_arith, after, one_part gap, unsigned_abs-parts gap, one_part (pos k)) in
    let test : ℤ → Bool = λ d. is_offset_day o (civil d) in
    let here : test (number_of r) ≡ true =
    rw (civil-number_of r h.to_day ry (number_of-low r h.to_day ry)) (landing-first o r h.monthly h.to_day h.first ∙ h.lands) in
    first_passing-is test 800 k (number_of c) (omega (arith, signed_arith, e, soon)) (subst (λ (z : ℤ). test z ≡ true) (sym e) here)
    (λ j lj.
    let z = number_of c +ℤ pos j in
    let num : number_of (civil z) ≡ z = number_of-civil z (omega (arith, signed_arith, low)) in
    let high : number_of (civil z) <ℤ number_of r = omega (arith, signed_arith, e, lj, num) in
    lands_first o c r (civil z) h (civil-day z) (omega (arith, signed_arith, num)) high)
    ∙ ap (λ (z : ℤ). Some z) e

-- any day is its own landing
pub offset_found-any : (z : ℤ) → offset_found AnyDay z ≡ Some z
offset_found-any z =
    let e : z +ℤ pos 0 ≡ z = omega (arith, signed_arith) in
    first_passing-is (λ d. true) 800 0 z (omega arith) refl (λ j lj. absurd (omega (arith, lj))) ∙ ap (λ (z : ℤ). Some z) e

-- what is found is the least day that has the offset's property
pub IsLeastFrom-found : (o : Offset) (from day : ℤ) → offset_found o from ≡ Some day → IsLeastFrom o from day
IsLeastFrom-found o from day e =
    let first = first_passing-least (λ d. is_offset_day o (civil d)) 800 from day e in
    record { not_before = first.not_before; has_property = first.passes; least = first.least }
