use Rattle.std.proofs.Common.{ℤ, ◌∙◌, ap, subst, sym, arith}
use Rattle.jiff.specs.Words.{epoch_day}
use Rattle.jiff_core.proofs.SignedLemmas.{signed_arith}
use Rattle.office_days.specs.Due.{end_of}
use Rattle.office_days.specs.Limits.{IsDayNumber}
use Rattle.office_days.specs.Offsets.{IsLeastFrom}
use Rattle.office_days.proofs.Dates.{epoch_day-low}
use Rattle.office_days.proofs.Moves.{IsLeastFrom-found}
use Rattle.office_days.proofs.Spans.{end_of-months, end_of-years}
use Rattle.office_days.proofs.due.due_day.Goals as goal

pub of_date-requires : goal.of_date-requires
of_date-requires c =
    let low = epoch_day-low c.end_of.result c.end_of.ensures.range.0 in
    (omega (arith, signed_arith, low, c.move_to.ensures.range), c.move_to.ensures.range.1)

pub returns-clause-least : goal.returns-clause-least
returns-clause-least c =
    let end = c.end_of.ensures.value ∙ ap (λ (start : ℤ). end_of start c.args.period) c.date.ensures.value in
    let found = IsLeastFrom-found c.args.offset (epoch_day c.end_of.result) (epoch_day c.move_to.result) c.move_to.ensures.value in
    subst (λ (from : ℤ). IsLeastFrom c.args.offset from c.of_date.result) end
    (subst (λ (day : ℤ). IsLeastFrom c.args.offset (epoch_day c.end_of.result) day) (sym c.of_date.ensures) found)

pub returns-clause-months : goal.returns-clause-months
returns-clause-months c = λ months. end_of-months c.args.start c.args.period (subst IsDayNumber c.date.ensures.value c.date.ensures.in_range) c.end_of.ensures.within months

pub returns-clause-years : goal.returns-clause-years
returns-clause-years c = λ years. end_of-years c.args.start c.args.period (subst IsDayNumber c.date.ensures.value c.date.ensures.in_range) c.end_of.ensures.within years
