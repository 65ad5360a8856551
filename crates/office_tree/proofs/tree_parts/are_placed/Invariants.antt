use Rattle.std.proofs.Common.{◌≡◌, ◌≤◌, ℕ, true, Some}
use Rattle.office_records.specs.Lists.{numbered}
use Rattle.office_records.specs.declared.aggregation.Aggregation.{Aggregation}
use Rattle.office_records.specs.Loading.{is_placed}
use Rattle.office_tree.proofs.tree_parts.are_placed.Given as goal

abbrev pub invariant-loop-i : goal.invariant-loop-i
invariant-loop-i l = (a : ℕ) (it : Aggregation) → a ≤ l.i → numbered l.aggregations a ≡ Some it → is_placed l.aggregations a it it.parent ≡ true
