use Rattle.std.proofs.Common.{◌∙◌, ap, sym, refl, arith, ℤ}
use Rattle.office_days.specs.Calendar.{civil}
use Rattle.office_days.specs.Texts.{day_text}
use Rattle.office_days.proofs.Civil.{civil-day}
use Rattle.office_days.proofs.Dates.{civil-epoch_day}
use Rattle.office_days.proofs.DayBytes.{IfSome_weaker}
use Rattle.office_days.proofs.Naming.{day_named-calendar, day_named-none, read-named}
use Rattle.office_days.proofs.Spans.{civil-year}
use Rattle.office_days.proofs.day.Day.read.Goals as goal

pub returns-in_err-read_date-clause-named : goal.returns-in_err-read_date-clause-named
returns-in_err-read_date-clause-named c =
    let none = c.in_err-read_date.ensures.none refl in
    c.from_residual.ensures ∙ sym (day_named-none c.args.text.now (λ d h e. none (civil d) (civil-day d) (omega (arith, civil-year d h)) (c.as_bytes.ensures.value ∙ e)))

pub returns-clause-named : goal.returns-clause-named
returns-clause-named c =
    let read = c.in_ok-read_date.ensures.value in
    let text = sym c.as_bytes.ensures.value ∙ read.0 in
    read-named c.args.text.now c.in_ok-read_date.field-0 c.of_date.result read.1 text c.of_date.ensures.in_range c.of_date.ensures.value (text ∙ ap day_text (sym (civil-epoch_day c.in_ok-read_date.field-0 read.1)))

pub returns-clause-exact : goal.returns-clause-exact
returns-clause-exact c =
    let read = c.in_ok-read_date.ensures.value in
    IfSome_weaker {A = ℤ} c.of_date.result _ _ (λ d e. sym c.as_bytes.ensures.value ∙ read.0 ∙ ap day_text (sym (civil-epoch_day c.in_ok-read_date.field-0 read.1) ∙ ap civil (sym e))) c.of_date.ensures.value

pub returns-clause-every : goal.returns-clause-every
returns-clause-every c =
    let read = c.in_ok-read_date.ensures.value in
    let text = sym c.as_bytes.ensures.value ∙ read.0 in
    let named = read-named c.args.text.now c.in_ok-read_date.field-0 c.of_date.result read.1 text c.of_date.ensures.in_range c.of_date.ensures.value (text ∙ ap day_text (sym (civil-epoch_day c.in_ok-read_date.field-0 read.1))) in
    λ day h year e. named ∙ day_named-calendar c.args.text.now day h year e
