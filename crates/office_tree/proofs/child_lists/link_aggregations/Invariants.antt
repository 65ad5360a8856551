use Rattle.std.proofs.Common.{length, take}
use Rattle.office_tree.specs.ChildLists.{AreLinked, parents_of}
use Rattle.office_tree.proofs.child_lists.link_aggregations.Given as goal

-- the aggregations so far are linked
abbrev pub invariant-loop-i : goal.invariant-loop-i
invariant-loop-i l = AreLinked (parents_of (take l.i l.aggregations)) (length l.aggregations) l.child_lists.last.items l.child_lists.before.items
