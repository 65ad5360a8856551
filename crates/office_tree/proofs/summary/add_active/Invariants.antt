use Rattle.std.proofs.Common.{◌≡◌, ◌+◌, ℕ, Some, take}
use Rattle.office_records.specs.Lists.{numbered}
use Rattle.office_tree.specs.declared.summary.AggregationSummary.{AggregationSummary}
use Rattle.office_tree.proofs.SummarySteps.{times}
use Rattle.office_tree.proofs.summary.add_active.Given as goal

-- the summaries of the numbers so far are changed
abbrev pub invariant-loop-number : goal.invariant-loop-number
invariant-loop-number l = (a : ℕ) (it : AggregationSummary) → numbered l.initial.summaries a ≡ Some it → numbered l.summaries a ≡ Some (record it { active = it.active + times (take l.number-index l.numbers) a })
