-- Ten bytes are a day's text exactly where its parts are.
use Rattle.std.proofs.Common.{◌≡◌, ℕ, ◌/◌, ◌≤◌, ◌<◌, List, length, get_or, arith, ap, ◌∙◌, sym}
use Rattle.std.proofs.lemmas.Slice.Eq.{text_from_reads}
use Rattle.jiff_core.specs.declared.civil.date.Date.{Date}
use Rattle.office_days.proofs.MonthLengths.{month_length-bounds}
use Rattle.std.proofs.Common.{pos, ℤ, ◌≤ℤ◌, unsigned_abs, Option, Some, None, IfSome}
use Rattle.jiff_core.specs.Date.{epoch_day}
use Rattle.jiff_core.proofs.SignedLemmas.{signed_arith}
use Rattle.office_days.specs.Limits.{IsDayNumber}
use Rattle.office_days.proofs.Civil.{SameDay, same_day, civil-day, number_of-civil}
use Rattle.office_days.proofs.Dates.{year-back, IsDay-day_of, number_of-day_of}
use Rattle.office_days.proofs.Spans.{civil-year}
use Rattle.office_days.specs.Calendar.{CivilDay, IsDay, civil, day_of, number_of}
use Rattle.office_days.specs.Texts.{day_text, IsTwo, IsFour, IsDayParts}

pub record IsDayBytes (s : List ℕ) (y m d : ℕ) : Type 0 where
  pub len : length s ≡ 10
  pub first : get_or s 4 0 ≡ 45
  pub second : get_or s 7 0 ≡ 45
  pub year : IsFour (get_or s 0 0) (get_or s 1 0) (get_or s 2 0) (get_or s 3 0) y
  pub month : IsTwo (get_or s 5 0) (get_or s 6 0) m
  pub day : IsTwo (get_or s 8 0) (get_or s 9 0) d

pub text-from_bytes : (s : List ℕ) (c : CivilDay) → IsDayBytes s c.year c.month c.day → s ≡ day_text c
text-from_bytes s c h =
    let a : c.year / 100 / 10 ≡ c.year / 1000 = omega arith in
    text_from_reads s (day_text c) h.len
    (omega (arith, a, h.year.high.tens), (h.year.high.ones, (h.year.low.tens, (h.year.low.ones, (h.first, (h.month.tens, (h.month.ones, (h.second, (h.day.tens, (h.day.ones, tt))))))))))

pub text-from_parts : (s : List ℕ) (d : Date) (y m n : ℕ) → IsDayBytes s y m n → IsDayParts d y m n → s ≡ day_text (day_of d)
text-from_parts s d y m n h p =
    text-from_bytes s (day_of d) (rw (p.years, p.months, p.days) h)

pub record SameParts (c : CivilDay) (y m n : ℕ) : Type 0 where
  pub years : c.year ≡ y
  pub months : c.month ≡ m
  pub days : c.day ≡ n

pub parts-from_text : (s : List ℕ) (c : CivilDay) (y m n : ℕ) → IsDay c → c.year ≤ 9999 → y < 10_000 → m < 100 → n < 100 → IsDayBytes s y m n → s ≡ day_text c → SameParts c y m n
parts-from_text s c y m n day nines yl ml nl h e =
    let at = λ (i : ℕ). ap (λ (t : List ℕ). get_or t i 0) e in
    record {
      years = omega (arith, at 0, at 1, at 2, at 3, h.year.high.tens, h.year.high.ones, h.year.low.tens, h.year.low.ones);
      months = omega (arith, day.month_in, at 5, at 6, h.month.tens, h.month.ones);
      days = omega (arith, day.day_in, month_length-bounds c.year c.month, at 8, at 9, h.day.tens, h.day.ones);
    }

pub IfSome_weaker : {A : Type 0} (o : Option A) (P Q : A → Type 0) → ((a : A) → P a → Q a) → IfSome o P → IfSome o Q
IfSome_weaker None P Q f h = tt
IfSome_weaker (Some a) P Q f h = f a h

-- a text names one day
pub day_text-same : (c d : CivilDay) → IsDay c → IsDay d → c.year ≤ 9999 → d.year ≤ 9999 → day_text c ≡ day_text d → SameDay c d
day_text-same c d hc hd cy dy e =
    let at = λ (i : ℕ). ap (λ (t : List ℕ). get_or t i 0) e in
    record {
      year = omega (arith, at 0, at 1, at 2, at 3);
      month = omega (arith, hc.month_in, hd.month_in, at 5, at 6);
      day = omega (arith, hc.day_in, hd.day_in, month_length-bounds c.year c.month, month_length-bounds d.year d.month, at 8, at 9);
    }

-- a date and a day number that have one text
pub epoch_day-text : (date : Date) (z : ℤ) → pos 1 ≤ℤ date.year → IsDayNumber z → day_text (day_of date) ≡ day_text (civil z) → epoch_day date ≡ z
epoch_day-text date z low h e =
    let y : unsigned_abs date.year ≤ 9999 = omega (arith, signed_arith, date.year_in, low, year-back date.year low) in
    let same = same_day _ _ (day_text-same (day_of date) (civil z) (IsDay-day_of date low) (civil-day z) y (omega (arith, civil-year z h)) e) in
    sym (number_of-day_of date low) ∙ ap number_of same ∙ number_of-civil z h.0
