-- A text names the one day whose text it is.
use Rattle.std.proofs.Common.{◌≡◌, ◌≢◌, ◌⊎◌, inl, inr, ℕ, ◌≤◌, ℤ, pos, neg_ℤ, ◌+ℤ◌, ◌≤ℤ◌, unsigned_abs, List, Option, Some, None, IsSome, IfSome, ◌↔◌, true, false, Bool, arith, refl, sym, ap, subst, ◌∙◌}
use Rattle.std.specs.Str.{bytes_eq}
use Rattle.std.proofs.lemmas.Slice.Eq.{bytes_eq-Decides}
use Rattle.jiff_core.specs.declared.civil.date.Date.{Date}
use Rattle.jiff_core.specs.Date.{epoch_day}
use Rattle.jiff_core.proofs.SignedLemmas.{signed_arith, one_part, unsigned_abs-parts}
use Rattle.office_days.specs.Calendar.{CivilDay, IsDay, civil, day_of, number_of}
use Rattle.office_days.specs.Limits.{IsDayNumber}
use Rattle.office_days.specs.Texts.{day_named, day_text}
use Rattle.office_days.proofs.Civil.{same_day, civil-day, civil-number_of, number_of-civil, number_of-le}
use Rattle.office_days.proofs.DayBytes.{day_text-same, epoch_day-text}
use Rattle.office_days.proofs.FirstPassing.{first_passing-is, first_passing-none}
use Rattle.office_days.proofs.MonthLengths.{month_length-bounds}
use Rattle.office_days.proofs.Moves.{number_of-low}
use Rattle.office_days.proofs.Spans.{civil-year, last_start}

-- the test of a day by its text
abbrev has_text : List ℕ → ℤ → Bool
has_text text d = bytes_eq text (day_text (civil d))

cases_test : (b : Bool) → (b ≡ true) ⊎ (b ≡ false)
cases_test true = inl refl
cases_test false = inr refl

same_number : (c d : ℤ) → IsDayNumber c → IsDayNumber d → day_text (civil c) ≡ day_text (civil d) → c ≡ d
same_number c d hc hd e =
    let cy = civil-year c hc in
    let dy = civil-year d hd in
    let same = same_day _ _ (day_text-same (civil c) (civil d) (civil-day c) (civil-day d) (omega (arith, cy)) (omega (arith, dy)) e) in
    sym (number_of-civil c hc.0) ∙ ap number_of same ∙ number_of-civil d hd.0

pub day_named-some : (text : List ℕ) (d : ℤ) → IsDayNumber d → text ≡ day_text (civil d) → day_named text ≡ Some d
day_named-some text d h e =
    let w = d +ℤ pos 719_162 in
    let k = unsigned_abs w in
    let from = neg_ℤ (pos 719_162) in
    let at : from +ℤ pos k ≡ d = omega (arith, signed_arith, h, one_part w, unsigned_abs-parts w, one_part (pos k)) in
    let here : has_text text d ≡ true = (bytes_eq-Decides text (day_text (civil d))).1 e in
    first_passing-is (has_text text) 1_095_362 k from (omega (arith, signed_arith, at, h)) (subst (λ (z : ℤ). has_text text z ≡ true) (sym at) here)
    (λ j lt. elim (cases_test (has_text text (from +ℤ pos j))) [
      | inl named ↦
          let z = from +ℤ pos j in
          let hz : IsDayNumber z = (omega (arith, signed_arith), omega (arith, signed_arith, at, lt, h)) in
          let same = same_number z d hz h (sym ((bytes_eq-Decides text (day_text (civil z))).0 named) ∙ e) in
          absurd (omega (arith, signed_arith, at, lt, same))
      | inr other ↦ other
    ])
    ∙ ap (λ (z : ℤ). Some z) at

pub day_named-none : (text : List ℕ) → ((d : ℤ) → IsDayNumber d → text ≢ day_text (civil d)) → day_named text ≡ None
day_named-none text none =
    let from = neg_ℤ (pos 719_162) in
    first_passing-none (has_text text) 1_095_362 from
    (λ j lt. elim (cases_test (has_text text (from +ℤ pos j))) [
      | inl named ↦
          let z = from +ℤ pos j in
          let hz : IsDayNumber z = (omega (arith, signed_arith), omega (arith, signed_arith, lt)) in
          absurd (none z hz ((bytes_eq-Decides text (day_text (civil z))).0 named))
      | inr other ↦ other
    ])

-- every day of the calendar up to 2999-12-31 is named by its text
pub day_named-calendar : (text : List ℕ) (c : CivilDay) → IsDay c → c.year ≤ 2999 → text ≡ day_text c → day_named text ≡ Some (number_of c)
day_named-calendar text c h y e =
    let end : CivilDay = record { year = 2999; month = 12; day = 31 } in
    let there : IsDay end = record { year_in = omega arith; month_in = (omega arith, omega arith); day_in = (omega arith, omega arith) } in
    let low = number_of-low c h (omega (arith, y)) in
    let most = number_of-le c end h there (omega (arith, y)) (omega (arith, y, h.month_in)) (λ same. omega (arith, h.day_in, month_length-bounds c.year c.month)) in
    let back = civil-number_of c h (omega (arith, y)) low in
    day_named-some text (number_of c) (low, omega (arith, signed_arith, most, last_start)) (e ∙ ap day_text (sym back))

-- what is read of a date's text is the day that the text names
pub read-named : (text : List ℕ) (date : Date) (r : Option ℤ) → pos 1 ≤ℤ date.year → text ≡ day_text (day_of date) → IsSome r ↔ IsDayNumber (epoch_day date) → IfSome r (λ d. d ≡ epoch_day date) → (text ≡ day_text (civil (epoch_day date))) → r ≡ day_named text
read-named text date None low e some value named =
    sym (day_named-none text (λ d h same.
    let z = epoch_day-text date d low h (sym e ∙ same) in
    let bad : false ≡ true = some.1 (subst IsDayNumber (sym z) h) in
    cc))
read-named text date (Some d) low e some value named =
    let h : IsDayNumber d = subst IsDayNumber (sym value) (some.0 refl) in
    sym (day_named-some text d h (named ∙ ap (λ (z : ℤ). day_text (civil z)) (sym value)))
