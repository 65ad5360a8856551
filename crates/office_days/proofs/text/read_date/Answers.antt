use Rattle.std.proofs.Common.{rules}
use Rattle.office_days.proofs.DayBytes.{IfSome_weaker, IsDayBytes, text-from_parts, parts-from_text}
use Rattle.office_days.proofs.text.read_date.Goals as goal

pub returns-clause-value : goal.returns-clause-value
returns-clause-value c =
    let bytes : IsDayBytes c.args.text.now c.in_ok-year.year c.in_ok-month.month c.in_ok-day.day = record {
      len = search rules;
      first = search rules;
      second = search rules;
      year = c.in_ok-year.ensures.value.0;
      month = c.in_ok-month.ensures.value.0;
      day = c.in_ok-day.ensures.value.0;
    } in
    IfSome_weaker c.date_of_parts.result _ _ (λ d p. (text-from_parts _ d _ _ _ bytes p, p.low)) c.date_of_parts.ensures.value

pub returns-clause-none : goal.returns-clause-none
returns-clause-none c =
    let bytes : IsDayBytes c.args.text.now c.in_ok-year.year c.in_ok-month.month c.in_ok-day.day = record {
      len = search rules;
      first = search rules;
      second = search rules;
      year = c.in_ok-year.ensures.value.0;
      month = c.in_ok-month.ensures.value.0;
      day = c.in_ok-day.ensures.value.0;
    } in
    λ none d day nines e.
    let parts = parts-from_text _ d _ _ _ day nines c.in_ok-year.ensures.value.1 c.in_ok-month.ensures.value.1 c.in_ok-day.ensures.value.1 bytes e in
    c.date_of_parts.ensures.none none d day parts.years parts.months parts.days
