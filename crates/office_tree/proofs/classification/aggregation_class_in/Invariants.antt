use Rattle.std.proofs.Common.{◌≡◌, ◌<◌, ◌≤◌, length}
use Rattle.office_records.specs.Tree.{aggregation_class_in}
use Rattle.office_tree.proofs.classification.aggregation_class_in.Given as goal

-- the aggregation reached has the class that is sought
abbrev pub invariant-loop-class : goal.invariant-loop-class
invariant-loop-class l = record {
  low : 0 < l.at;
  high : l.at ≤ length l.aggregations;
  class : aggregation_class_in l.aggregations l.aggregation ≡ aggregation_class_in l.aggregations l.at;
}

abbrev pub decreases-loop-class : goal.decreases-loop-class
decreases-loop-class l = l.at
