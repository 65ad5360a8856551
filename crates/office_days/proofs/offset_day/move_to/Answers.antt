use Rattle.std.proofs.Common.{arith}
use Rattle.jiff_core.proofs.SignedLemmas.{signed_arith}
use Rattle.office_days.proofs.Moves.{offset_found-lands, offset_found-any, lands_after, number_of-high}
use Rattle.office_days.proofs.Dates.{number_of-day_of, lands_by_months, epoch_day-high, IsDay-day_of}
use Rattle.office_days.proofs.offset_day.move_to.Goals as goal

pub returns-in-AnyDay-clause-value : goal.returns-in-AnyDay-clause-value
returns-in-AnyDay-clause-value c = rw c.in-AnyDay.is (offset_found-any _)

pub returns-in-AnyDay-clause-range : goal.returns-in-AnyDay-clause-range
returns-in-AnyDay-clause-range c = (omega (arith, signed_arith), epoch_day-high c.args.end c.requires.0 c.requires.1)

pub returns-clause-value : goal.returns-clause-value
returns-clause-value c =
    let m = c.offset_month.ensures in
    let r = c.first_of.ensures in
    let h = lands_by_months c.args.offset c.args.end c.first_of.result _ _ c.in_default.not-AnyDay c.requires.0 c.requires.1 c.next_month.ensures.begins c.next_month.ensures.later m.asked m.least m.low m.high r.year r.month r.day in
    rw (← number_of-day_of c.args.end c.requires.0, ← number_of-day_of c.first_of.result h.1) (offset_found-lands _ _ _ h.0)

pub returns-clause-range : goal.returns-clause-range
returns-clause-range c =
    let m = c.offset_month.ensures in
    let r = c.first_of.ensures in
    let h = lands_by_months c.args.offset c.args.end c.first_of.result _ _ c.in_default.not-AnyDay c.requires.0 c.requires.1 c.next_month.ensures.begins c.next_month.ensures.later m.asked m.least m.low m.high r.year r.month r.day in
    let from = number_of-day_of c.args.end c.requires.0 in
    let to = number_of-day_of c.first_of.result h.1 in
    let le = lands_after _ _ _ h.0 in
    let high = number_of-high _ (IsDay-day_of c.first_of.result h.1) r.day h.2 in
    (omega (arith, signed_arith, from, to, le), omega (arith, signed_arith, to, high))
