use Rattle.std.proofs.Common.{ap, length}
use Rattle.office_tree.proofs.ListedRows.{listed_empty}
use Rattle.office_tree.proofs.Linked.{linked_none}
use Rattle.office_tree.proofs.ReadKept.{stored_empty}
use Rattle.office_tree.proofs.derived.Derived.new.Goals as goal

pub returns : goal.returns
returns c =
    let class_index = c.new-8.result in
    let listed = listed_empty (length class_index.class_lists.first.items) class_index.class_lists.class.items (ap length c.new-8.ensures.first) c.new-8.ensures.class in
    record {
      stored = rw (c.new.ensures.empty, c.new-2.ensures.empty, c.new-3.ensures, c.new-4.ensures.items, c.new-5.ensures.last, c.new-5.ensures.before, c.new-7.ensures) stored_empty;
      aggregations_in = rw (c.new-6.ensures.last, c.new-6.ensures.before) linked_none;
      class_index = rw c.new-8.ensures.numbers listed;
    }
