use Rattle.std.proofs.Common.{◌+◌, List, ℕ, sym, subst}
use Rattle.office_tree.specs.ChildLists.{AreLinked}
use Rattle.office_tree.proofs.Linked.{linked_aggregation}
use Rattle.office_tree.proofs.child_lists.ChildLists.add_list.Goals as goal

pub returns-clause-linked : goal.returns-clause-linked
returns-clause-linked c containers count right =
    subst (λ (last : List ℕ). AreLinked containers (count + 1) last c.args.self.now.before.items) (sym c.push_row.ensures)
    (linked_aggregation containers count c.args.self.now.last.items c.args.self.now.before.items right)
