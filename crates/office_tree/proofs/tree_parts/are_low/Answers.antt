use Rattle.std.proofs.Common.{length, inl, inr, arith}
use Rattle.std.proofs.lemmas.Bool.{cases_lt}
use Rattle.office_records.proofs.Placed.{low_zero, low_beyond}
use Rattle.office_tree.proofs.tree_parts.are_low.Goals as goal

pub loop-i-init : goal.loop-i-init
loop-i-init c = low_zero c.args.aggregations.now

pub returns-clause-yes : goal.returns-clause-yes
returns-clause-yes c reported a = elim (cases_lt (length c.args.aggregations.now) a) [
  | inl beyond ↦ low_beyond c.args.aggregations.now a beyond
  | inr within ↦ c.loop-i.invariant a (omega (arith, within, c.loop-i-test.false))
]
