use Rattle.std.proofs.Common.{◌≤◌, ℕ, length}
use Rattle.office_records.specs.Tree.{chain_of}
use Rattle.office_tree.proofs.tree_parts.are_low.Given as goal

-- the aggregations so far are not too deep
abbrev pub invariant-loop-i : goal.invariant-loop-i
invariant-loop-i l = (a : ℕ) → a ≤ l.i → length (chain_of l.aggregations a) ≤ 8
