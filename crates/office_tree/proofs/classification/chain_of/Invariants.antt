use Rattle.std.proofs.Common.{◌≡◌, ◌<◌, ◌≤◌, ◌++◌, length}
use Rattle.std.specs.Option.{IfSome, unwrap_or}
use Rattle.office_records.specs.Tree.{chain_of}
use Rattle.office_records.proofs.Walk.{up_from}
use Rattle.office_tree.proofs.classification.chain_of.Given as goal

-- the numbers so far and those that are left
abbrev pub invariant-loop-next : goal.invariant-loop-next
invariant-loop-next l = record {
  within : IfSome l.next (λ a. (0 < a) × (a ≤ length l.aggregations));
  all : l.numbers.items ++ up_from l.aggregations l.next ≡ chain_of l.aggregations l.aggregation;
}

abbrev pub decreases-loop-next : goal.decreases-loop-next
decreases-loop-next l = unwrap_or l.next 0
