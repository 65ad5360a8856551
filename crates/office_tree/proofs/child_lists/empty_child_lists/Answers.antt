use Rattle.std.proofs.Common.{[]}
use Rattle.office_tree.proofs.Linked.{linked_same}
use Rattle.office_tree.proofs.child_lists.empty_child_lists.Goals as goal

pub loop-i-preserved : goal.loop-i-preserved
loop-i-preserved c =
    c.add_list.ensures.linked [] c.loop-i._i
    (linked_same [] c.loop-i._i c.loop-i.child_lists.last.items c.loop-i.child_lists.before.items c.make_list_room.new.self.last.items c.make_list_room.new.self.before.items c.make_list_room.ensures.last c.make_list_room.ensures.before c.loop-i.invariant)
