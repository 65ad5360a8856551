use Rattle.std.proofs.Common.{◌≡◌, ◌+◌, ℕ, get_or, take, ap, arith}
use Rattle.office_tree.specs.declared.summary.AggregationSummary.{AggregationSummary}
use Rattle.office_tree.proofs.SummarySteps.{came_from, changed_more, times_few}
use Rattle.office_tree.proofs.summary.add_active.Goals as goal

-- so many more
abbrev more : ℕ → AggregationSummary → AggregationSummary
more n it = record it { active = it.active + n }

one_more : (n : ℕ) (it : AggregationSummary) → more 1 (more n it) ≡ more (n + 1) it
one_more n it = let same : it.active + n + 1 ≡ it.active + (n + 1) = omega arith in ap (λ k. record it { active = k }) same

pub overflow_add-summary : goal.overflow_add-summary
overflow_add-summary c =
    let i = c.loop-number.number-index in
    let b = get_or c.args.numbers.now i 0 in
    let from = came_from more c.args.summaries.now c.loop-number.summaries (take i c.args.numbers.now) b c.index-summaries-number.result c.loop-number.auto.summaries (c.requires.within i 0 c.loop-number-test.true) c.loop-number.invariant in
    omega (arith, ap (λ (it : AggregationSummary). it.active) from.is, c.requires.few b from.it from.there, times_few c.args.numbers.now i b, c.requires.short)

pub loop-number-preserved : goal.loop-number-preserved
loop-number-preserved c =
    let i = c.loop-number.number-index in
    changed_more more (more 1) one_more c.args.summaries.now c.loop-number.summaries c.args.numbers.now i c.index-summaries-number.result c.loop-number-test.true c.loop-number.auto.summaries (c.requires.within i 0 c.loop-number-test.true) c.loop-number.invariant
