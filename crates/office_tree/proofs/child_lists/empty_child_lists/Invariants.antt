use Rattle.std.proofs.Common.{[]}
use Rattle.office_tree.specs.ChildLists.{AreLinked}
use Rattle.office_tree.proofs.child_lists.empty_child_lists.Given as goal

-- so many aggregations are there
abbrev pub invariant-loop-i : goal.invariant-loop-i
invariant-loop-i l = AreLinked [] l._i l.child_lists.last.items l.child_lists.before.items
