use Rattle.std.proofs.Common.{take}
use Rattle.office_tree.specs.ChildLists.{AreLinked, containers_of}
use Rattle.office_tree.proofs.child_lists.link_records.Given as goal

-- the records so far are linked
abbrev pub invariant-loop-i : goal.invariant-loop-i
invariant-loop-i l = AreLinked (containers_of (take l.i l.records)) l.count l.child_lists.last.items l.child_lists.before.items
