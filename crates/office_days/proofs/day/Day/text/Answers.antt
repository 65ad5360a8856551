use Rattle.std.proofs.Common.{◌∙◌, ap, sym}
use Rattle.office_days.specs.Calendar.{civil}
use Rattle.office_days.specs.Texts.{day_text}
use Rattle.office_days.proofs.Civil.{civil-day, number_of-civil}
use Rattle.office_days.proofs.Dates.{civil-epoch_day}
use Rattle.office_days.proofs.Spans.{year-low}
use Rattle.office_days.proofs.day.Day.text.Goals as goal

pub date_text-requires : goal.date_text-requires
date_text-requires c = year-low c.date.result c.date.ensures.in_range.0

pub returns-clause-value : goal.returns-clause-value
returns-clause-value c =
    let low = year-low c.date.result c.date.ensures.in_range.0 in
    c.date_text.ensures ∙ ap day_text (sym (civil-epoch_day c.date.result low) ∙ ap civil c.date.ensures.value)

pub returns-clause-calendar : goal.returns-clause-calendar
returns-clause-calendar c = (civil-day c.args.self, number_of-civil c.args.self (rw c.date.ensures.value at c.date.ensures.in_range.0))
