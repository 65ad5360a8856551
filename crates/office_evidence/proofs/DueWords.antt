-- A due day is read of the word that the office writes of it, by the crate `jiff`.
use Rattle.std.proofs.Common.{◌≡◌, inl, inr, ℕ, ◌≤◌, ◌+◌, ◌/◌, ◌%◌, ◌↔◌, ◌≤ℤ◌, true, false, ℤ, pos, unsigned_abs, List, [], ◌∷◌, Option, Some, None, Result, Ok, Err, refl, sym, ap, ◌∙◌, arith, subst}
use Rattle.std.specs.Option.{is_some}
use Rattle.std.specs.Prelude.{IsSome, IfSome}
use Rattle.std.specs.Result.{result_ok}
use Rattle.std.proofs.lemmas.Bool.{cases_lt}
use Rattle.jiff_core.specs.Date.{epoch_day}
use Rattle.jiff_core.specs.declared.civil.date.Date.{Date}
use Rattle.jiff_core.specs.declared.error.Error.{Error}
use Rattle.jiff_core.proofs.SignedLemmas.{signed_arith}
use Rattle.jiff_fmt.specs.Temporal.{date_parts, date_view, parse_date}
use Rattle.jiff_fmt.specs.Text as jiff
use Rattle.jiff_fmt.proofs.RoundTrip.{parse_date-date_text}
use Rattle.office_days.specs.Calendar.{CivilDay, IsDay, civil, day_of, number_of}
use Rattle.office_days.specs.Limits.{IsDueNumber}
use Rattle.office_days.specs.Texts.{day_text}
use Rattle.office_days.proofs.Civil.{civil-day, day-civil_date, number_of-civil, number_of-month}
use Rattle.office_days.proofs.Dates.{number_of-day_of}
use Rattle.office_days.proofs.MonthLengths.{month_length-bounds}
use Rattle.office_days.proofs.Moves.{IsDay-last, last_day, number_of-last}

-- a due day has a year up to 3500
due-year : (d : ℤ) → IsDueNumber d → (civil d).year ≤ 3500
due-year d form = elim (cases_lt 3500 (civil d).year) [
  | inl more ↦
      let later = number_of-month last_day (civil d) IsDay-last (civil-day d) (omega arith) (omega (arith, more, (civil-day d).month_in)) in
      absurd (omega (arith, signed_arith, later, number_of-last, number_of-civil d form.0, form.1))
  | inr few ↦ few
]

-- the date of `jiff` that a day is
date_on : (c : CivilDay) → IsDay c → c.year ≤ 9999 → Date
date_on c day nines = let is = day-civil_date c day nines in record { year = pos c.year; month = c.month; day = c.day; year_in = is.0; month_in = is.1; day_in = is.2 }

parts_on : (c : CivilDay) (day : IsDay c) (nines : c.year ≤ 9999) → date_parts (date_on c day nines) ≡ record { year = pos c.year; month = c.month; day = c.day }
unfolding date_on
parts_on c day nines = refl

-- and its text is the day's
text_on : (c : CivilDay) (day : IsDay c) (nines : c.year ≤ 9999) → day_text c ≡ jiff.date_text (date_on c day nines)
unfolding date_on
text_on c day nines =
    let y = c.year in
    let long = month_length-bounds c.year c.month in
    let a : 48 + y / 1000 % 10 ≡ 48 + y / 100 / 10 = omega arith in
    let b : 48 + y / 100 % 10 ≡ 48 + y / 100 % 10 = refl in
    let e : 48 + y / 10 % 10 ≡ 48 + y % 100 / 10 = omega arith in
    let f : 48 + y % 10 ≡ 48 + y % 100 % 10 = omega arith in
    let g : 48 + c.month / 10 % 10 ≡ 48 + c.month / 10 = omega (arith, day.month_in) in
    let h : 48 + c.day / 10 % 10 ≡ 48 + c.day / 10 = omega (arith, day.day_in, long) in
    λ i. a i ∷ b i ∷ e i ∷ f i ∷ 45 ∷ g i ∷ (48 + c.month % 10) ∷ 45 ∷ h i ∷ (48 + c.day % 10) ∷ []

-- what was parsed, by the parts that it must have
parsed_date : (r : Result Date Error) (d : Date) → date_view r ≡ Ok (date_parts d) → (date : Date) × (result_ok r ≡ Some date) × (date_parts date ≡ date_parts d)
parsed_date (Err e) d is = absurd cc
parsed_date (Ok date) d is = (date, refl, cc)

day_is : (date : Date) (c : CivilDay) → date.year ≡ pos c.year → date.month ≡ c.month → date.day ≡ c.day → day_of date ≡ c
day_is date c years months days = λ i. record { year = unsigned_abs (years i); month = months i; day = days i }

-- the date that is read of a due day's word
pub due_read : (word : List ℕ) (r : Result Date Error) (d : ℤ) → date_view r ≡ parse_date word → IsDueNumber d → word ≡ day_text (civil d) → (date : Date) × (result_ok r ≡ Some date) × (epoch_day date ≡ d)
due_read word r d read form same =
    let c = civil d in
    let day = civil-day d in
    let few = due-year d form in
    let nines : c.year ≤ 9999 = omega arith in
    let on = date_on c day nines in
    let found = parsed_date r on (read ∙ ap parse_date (same ∙ text_on c day nines) ∙ parse_date-date_text on) in
    let parts = found.2 ∙ parts_on c day nines in
    let years : found.0.year ≡ pos c.year = ap (λ p. p.year) parts in
    let is = day_is found.0 c years (ap (λ p. p.month) parts) (ap (λ p. p.day) parts) in
    let low : pos 1 ≤ℤ found.0.year = subst (λ (y : ℤ). pos 1 ≤ℤ y) (sym years) (omega (arith, signed_arith, day.year_in)) in
    (found.0, found.1, sym (number_of-day_of found.0 low) ∙ ap number_of is ∙ number_of-civil d form.0)

no_some : (o : Option ℤ) → o ≡ None → IsSome o → ⊥
no_some o is e = let no : false ≡ true = sym (ap is_some is) ∙ e in absurd cc

-- the due day of that number
pub due_made : (r : Option ℤ) (n d : ℤ) → IsSome r ↔ IsDueNumber n → IfSome r (λ x. x ≡ n) → n ≡ d → IsDueNumber d → r ≡ Some d
due_made None n d in_range value same form = absurd (no_some None refl (in_range.1 (subst (λ (z : ℤ). IsDueNumber z) (sym same) form)))
due_made (Some x) n d in_range value same form = ap (λ (z : ℤ). Some z) (value ∙ same)
