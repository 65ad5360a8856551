use Rattle.std.proofs.Common.{◌++◌, ◌∷◌, [], List, ℕ, sym, subst}
use Rattle.office_tree.specs.ChildLists.{AreLinked}
use Rattle.office_tree.proofs.Linked.{linked_alone}
use Rattle.office_tree.proofs.child_lists.ChildLists.add_outside.Goals as goal

pub returns : goal.returns
returns c containers count right =
    subst (λ (before : List ℕ). AreLinked (containers ++ 0 ∷ []) count c.args.self.now.last.items before) (sym c.push_row.ensures)
    (linked_alone containers count c.args.self.now.last.items c.args.self.now.before.items right)
