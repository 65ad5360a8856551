use Rattle.std.proofs.Common.{[]}
use Rattle.office_tree.proofs.Linking.{class_lists_none}
use Rattle.office_tree.proofs.Relinked.{class_lists_same}
use Rattle.office_tree.proofs.class_lists.ClassLists.new.Goals as goal

pub invariant_of-result : goal.invariant_of-result
invariant_of-result c = record { linked = class_lists_same [] [] [] [] c.new.result.items c.new-2.result.items c.new-3.result.items c.new-4.result.items c.new.ensures.items c.new-2.ensures.items c.new-3.ensures.items c.new-4.ensures.items class_lists_none }
