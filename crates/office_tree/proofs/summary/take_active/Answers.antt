use Rattle.std.proofs.Common.{◌≡◌, ◌+◌, ◌-◌, ℕ, get_or, take, ap, arith}
use Rattle.office_tree.specs.declared.summary.AggregationSummary.{AggregationSummary}
use Rattle.office_tree.proofs.SummarySteps.{came_from, changed_more, times_left}
use Rattle.office_tree.proofs.summary.take_active.Goals as goal

-- so many less
abbrev less : ℕ → AggregationSummary → AggregationSummary
less n it = record it { active = it.active - n }

one_less : (n : ℕ) (it : AggregationSummary) → less 1 (less n it) ≡ less (n + 1) it
one_less n it = let same : it.active - n - 1 ≡ it.active - (n + 1) = omega arith in ap (λ k. record it { active = k }) same

pub overflow_sub-summary-in-loop-number : goal.overflow_sub-summary-in-loop-number
overflow_sub-summary-in-loop-number c =
    let i = c.loop-number.number-index in
    let b = get_or c.args.numbers.now i 0 in
    let from = came_from less c.args.summaries.now c.loop-number.summaries (take i c.args.numbers.now) b c.index-summaries-number.result c.loop-number.auto.summaries (c.requires.within i 0 c.loop-number-test.true) c.loop-number.invariant in
    omega (arith, ap (λ (it : AggregationSummary). it.active) from.is, c.requires.some b from.it from.there, times_left c.args.numbers.now i c.loop-number-test.true)

pub loop-number-preserved : goal.loop-number-preserved
loop-number-preserved c =
    let i = c.loop-number.number-index in
    changed_more less (less 1) one_less c.args.summaries.now c.loop-number.summaries c.args.numbers.now i c.index-summaries-number.result c.loop-number-test.true c.loop-number.auto.summaries (c.requires.within i 0 c.loop-number-test.true) c.loop-number.invariant
