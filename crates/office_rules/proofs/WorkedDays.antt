-- The two days of the worked office, one year apart.
use Rattle.std.proofs.Common.{◌≡◌, ◌+◌, ◌<◌, ◌≤◌, ℕ, zero, suc, Bool, true, false, refl, sym, ap, subst, ◌∙◌, arith}
use Rattle.std.specs.Prelude.{if◌then◌else◌, nat_lt, unwrap_or}
use Rattle.std.proofs.lemmas.Bool.Decides.{nat_tests}
use Rattle.std.proofs.lemmas.Int.{ints}
use Rattle.office_days.specs.Calendar.{CivilDay, month_length, next_day, civil_after, civil, number_of}
use Rattle.office_days.specs.Due.{due_from, months_later}
use Rattle.office_days.specs.Offsets.{offset_from}
use Rattle.office_days.specs.declared.offset.Offset.TheVariants.{AnyDay}
use Rattle.office_days.proofs.Civil.{number_of-civil}
use Rattle.office_days.proofs.MonthLengths.{month_length-bounds}
use Rattle.office_days.proofs.Moves.{offset_found-any}
use Rattle.office_rules.specs.Worked.{filing_day, filing_due, yearly, by_event, leap_day, later_day, event_due, later_due}

abbrev date : ℕ → ℕ → ℕ → CivilDay
date year month day = record { year = year; month = month; day = day }

-- the day after a day by where it is in its month and its year
follows : (year month day : ℕ) (more early : Bool) → nat_lt day (month_length year month) ≡ more → nat_lt month 12 ≡ early → next_day (date year month day) ≡ (if more then date year month (day + 1) else (if early then date year (month + 1) 1 else date (year + 1) 1 1))
follows year month day more early m e = λ i. if m i then date year month (day + 1) else (if e i then date year (month + 1) 1 else date (year + 1) 1 1)

after_next : (n : ℕ) (c d : CivilDay) → civil_after n ≡ c → next_day c ≡ d → civil_after (suc n) ≡ d
unfolding civil_after
after_next n c d is next = ap next_day is ∙ next

lt_true : (a b : ℕ) → a < b → nat_lt a b ≡ true
lt_true a b h = grind (arith, nat_tests)

lt_false : (a b : ℕ) → b ≤ a → nat_lt a b ≡ false
lt_false a b h = grind (arith, nat_tests)

-- so many days after the first of a month
in_month : (n year month j k : ℕ) → civil_after n ≡ date year month 1 → j < month_length year month → k ≡ n + j → civil_after k ≡ date year month (suc j)
in_month n year month zero k is lt e = subst (λ (x : ℕ). civil_after x ≡ date year month 1) (omega (arith, e)) is
in_month n year month (suc j) k is lt e =
    let before = in_month n year month j (n + j) is (omega (arith, lt)) refl in
    let one_more : suc j + 1 ≡ suc (suc j) = omega arith in
    let next = follows year month (suc j) true (nat_lt month 12) (lt_true (suc j) (month_length year month) lt) refl ∙ ap (date year month) one_more in
    subst (λ (x : ℕ). civil_after x ≡ date year month (suc (suc j))) (omega (arith, e)) (after_next (n + j) (date year month (suc j)) (date year month (suc (suc j))) before next)

-- the day after the last of a month
month_end : (n year month length last k : ℕ) (early : Bool) → civil_after n ≡ date year month 1 → month_length year month ≡ length → suc last ≡ length → nat_lt month 12 ≡ early → k ≡ n + length → civil_after k ≡ (if early then date year (month + 1) 1 else date (year + 1) 1 1)
month_end n year month length last k early is l s early_is e =
    let day = in_month n year month last (n + last) is (omega (arith, l, s)) refl in
    let next = follows year month (suc last) false early (lt_false (suc last) (month_length year month) (omega (arith, l, s))) early_is in
    subst (λ (x : ℕ). civil_after x ≡ (if early then date year (month + 1) 1 else date (year + 1) 1 1)) (omega (arith, e, s)) (after_next (n + last) (date year month (suc last)) _ day next)

-- from one first of January to the next
year_end : (n year february : ℕ) → civil_after n ≡ date year 1 1 → month_length year 2 ≡ suc february → civil_after (n + (338 + february)) ≡ date (year + 1) 1 1
year_end n year february january feb =
    let m2 = month_end n year 1 31 30 (n + 31) true january refl refl refl refl in
    let m3 = month_end (n + 31) year 2 (suc february) february (n + (32 + february)) true m2 feb refl refl (omega arith) in
    let m4 = month_end (n + (32 + february)) year 3 31 30 (n + (63 + february)) true m3 refl refl refl (omega arith) in
    let m5 = month_end (n + (63 + february)) year 4 30 29 (n + (93 + february)) true m4 refl refl refl (omega arith) in
    let m6 = month_end (n + (93 + february)) year 5 31 30 (n + (124 + february)) true m5 refl refl refl (omega arith) in
    let m7 = month_end (n + (124 + february)) year 6 30 29 (n + (154 + february)) true m6 refl refl refl (omega arith) in
    let m8 = month_end (n + (154 + february)) year 7 31 30 (n + (185 + february)) true m7 refl refl refl (omega arith) in
    let m9 = month_end (n + (185 + february)) year 8 31 30 (n + (216 + february)) true m8 refl refl refl (omega arith) in
    let m10 = month_end (n + (216 + february)) year 9 30 29 (n + (246 + february)) true m9 refl refl refl (omega arith) in
    let m11 = month_end (n + (246 + february)) year 10 31 30 (n + (277 + february)) true m10 refl refl refl (omega arith) in
    let m12 = month_end (n + (277 + february)) year 11 30 29 (n + (307 + february)) true m11 refl refl refl (omega arith) in
    month_end (n + (307 + february)) year 12 31 30 (n + (338 + february)) false m12 refl refl refl (omega arith)

by_length : (n year length : ℕ) → civil_after n ≡ date year 1 1 → month_length year 2 ≡ length → 28 ≤ length → civil_after (n + (337 + length)) ≡ date (year + 1) 1 1
by_length n year zero january is few = absurd (omega (arith, few))
by_length n year (suc february) january is few =
    subst (λ (x : ℕ). civil_after x ≡ date (year + 1) 1 1) (omega arith) (year_end n year february january is)

-- how many days the first so many years have
days_of : ℕ → ℕ
days_of zero = 0
days_of (suc years) = days_of years + (337 + month_length (suc years) 2)

first_of_year : (years : ℕ) → civil_after (days_of years) ≡ date (suc years) 1 1
unfolding days_of civil_after
first_of_year zero = refl
first_of_year (suc years) =
    by_length (days_of years) (suc years) (month_length (suc years) 2) (first_of_year years) refl (month_length-bounds (suc years) 2).0
    ∙ ap (λ (y : ℕ). date y 1 1) (omega arith)

days_before_2024 : days_of 2023 ≡ 738_885
unfolding days_of
days_before_2024 = refl

days_before_2025 : days_of 2024 ≡ 739_251
unfolding days_of
days_before_2025 = refl

second_of_year : (years n : ℕ) → days_of years ≡ n → civil_after (suc n) ≡ date (suc years) 1 2
second_of_year years n e =
    in_month n (suc years) 1 1 (suc n) (subst (λ (x : ℕ). civil_after x ≡ date (suc years) 1 1) e (first_of_year years)) (omega arith) (omega arith)

pub civil_filing : civil filing_day ≡ date 2024 1 2
civil_filing = second_of_year 2023 738_885 days_before_2024

pub civil_due : civil filing_due ≡ date 2025 1 2
civil_due = second_of_year 2024 739_251 days_before_2025

number_of_due : number_of (date 2025 1 2) ≡ filing_due
number_of_due = ap number_of (sym civil_due) ∙ number_of-civil filing_due (omega (arith, ints))

-- the end of the period
end_is : offset_from AnyDay (number_of (months_later (civil filing_day) 12)) ≡ offset_from AnyDay filing_due
end_is = ap (λ (c : CivilDay). offset_from AnyDay (number_of (months_later c 12))) civil_filing ∙ ap (offset_from AnyDay) number_of_due

pub due_from_filing : due_from filing_day yearly.period AnyDay ≡ filing_due
due_from_filing = end_is ∙ ap (λ o. unwrap_or o filing_due) (offset_found-any filing_due)

-- ---- the days of an event, and two years later

days_before_2026 : days_of 2025 ≡ 739_616
unfolding days_of
days_before_2026 = refl

-- a day of February, and one of March, of the year after so many years
day_of_february : (years n j length : ℕ) → days_of years ≡ n → month_length (suc years) 2 ≡ length → j < length → civil_after (n + (31 + j)) ≡ date (suc years) 2 (suc j)
day_of_february years n j length e feb few =
    let january : civil_after n ≡ date (suc years) 1 1 = subst (λ (x : ℕ). civil_after x ≡ date (suc years) 1 1) e (first_of_year years) in
    let first = month_end n (suc years) 1 31 30 (n + 31) true january refl refl refl refl in
    in_month (n + 31) (suc years) 2 j (n + (31 + j)) first (omega (arith, feb, few)) (omega arith)

last_of_march : (years n february : ℕ) → days_of years ≡ n → month_length (suc years) 2 ≡ suc february → civil_after (n + (62 + february)) ≡ date (suc years) 3 31
last_of_march years n february e feb =
    let january : civil_after n ≡ date (suc years) 1 1 = subst (λ (x : ℕ). civil_after x ≡ date (suc years) 1 1) e (first_of_year years) in
    let first = month_end n (suc years) 1 31 30 (n + 31) true january refl refl refl refl in
    let march = month_end (n + 31) (suc years) 2 (suc february) february (n + (32 + february)) true first feb refl refl (omega arith) in
    in_month (n + (32 + february)) (suc years) 3 30 (n + (62 + february)) march (omega arith) (omega arith)

pub civil_leap_day : civil leap_day ≡ date 2024 2 29
civil_leap_day = day_of_february 2023 738_885 28 29 days_before_2024 refl (omega arith)

pub civil_event_due : civil event_due ≡ date 2026 2 28
civil_event_due = day_of_february 2025 739_616 27 28 days_before_2026 refl (omega arith)

civil_later_day : civil later_day ≡ date 2024 3 31
civil_later_day = last_of_march 2023 738_885 28 days_before_2024 refl

civil_later_due : civil later_due ≡ date 2026 3 31
civil_later_due = last_of_march 2025 739_616 27 days_before_2026 refl

number_of_event_due : number_of (date 2026 2 28) ≡ event_due
number_of_event_due = ap number_of (sym civil_event_due) ∙ number_of-civil event_due (omega (arith, ints))

number_of_later_due : number_of (date 2026 3 31) ≡ later_due
number_of_later_due = ap number_of (sym civil_later_due) ∙ number_of-civil later_due (omega (arith, ints))

pub due_from_leap_day : due_from leap_day by_event.period AnyDay ≡ event_due
due_from_leap_day =
    ap (λ (c : CivilDay). offset_from AnyDay (number_of (months_later c 24))) civil_leap_day
    ∙ ap (offset_from AnyDay) number_of_event_due
    ∙ ap (λ o. unwrap_or o event_due) (offset_found-any event_due)

pub due_from_later_day : due_from later_day by_event.period AnyDay ≡ later_due
due_from_later_day =
    ap (λ (c : CivilDay). offset_from AnyDay (number_of (months_later c 24))) civil_later_day
    ∙ ap (offset_from AnyDay) number_of_later_due
    ∙ ap (λ o. unwrap_or o later_due) (offset_found-any later_due)
