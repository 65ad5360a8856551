use Rattle.std.proofs.Common.{◌≡◌, ◌∙◌, false, true}
use Rattle.jiff.specs.Words.{epoch_day}
use Rattle.office_days.specs.Due.{plus}
use Rattle.office_days.proofs.Spans.{can_add, end-year}
use Rattle.office_days.proofs.date.end_of.Goals as goal

pub unreachable-requires : goal.unreachable-requires
unreachable-requires c =
    let s = c.span_of.ensures in
    let can = can_add c.args.start c.span_of.result c.args.period.unit c.args.period.count c.requires s.within s.months s.days s.clock in
    let bad : false ≡ true = c.in-Err.ensures.succeeds.1 can.0 in
    cc

pub returns-clause-value : goal.returns-clause-value
returns-clause-value c =
    let s = c.span_of.ensures in
    let can = can_add c.args.start c.span_of.result c.args.period.unit c.args.period.count c.requires s.within s.months s.days s.clock in
    c.in-Ok.ensures.value ∙ can.1

pub returns-clause-range : goal.returns-clause-range
returns-clause-range c =
    let s = c.span_of.ensures in
    let can = can_add c.args.start c.span_of.result c.args.period.unit c.args.period.count c.requires s.within s.months s.days s.clock in
    let e : epoch_day c.in-Ok.date ≡ plus (epoch_day c.args.start) c.args.period.unit c.args.period.count = c.in-Ok.ensures.value ∙ can.1 in
    end-year c.args.start c.in-Ok.date c.args.period.unit c.args.period.count c.requires s.within e
