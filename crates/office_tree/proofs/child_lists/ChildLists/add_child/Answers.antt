use Rattle.std.proofs.Common.{◌++◌, ◌∷◌, [], Option, ℕ, sym, subst}
use Rattle.std.specs.Option.{unwrap_or}
use Rattle.office_tree.specs.ChildLists.{AreLinked}
use Rattle.office_tree.proofs.child_lists.ChildLists.add_child.Goals as goal

pub returns-in-Some : goal.returns-in-Some
returns-in-Some c containers count right =
    subst (λ (parent : Option ℕ). AreLinked (containers ++ unwrap_or parent 0 ∷ []) count c.add_entity.new.self.last.items c.add_entity.new.self.before.items) (sym c.in-Some.is) (c.add_entity.ensures containers count right)

pub returns-in-None : goal.returns-in-None
returns-in-None c containers count right =
    subst (λ (parent : Option ℕ). AreLinked (containers ++ unwrap_or parent 0 ∷ []) count c.add_outside.new.self.last.items c.add_outside.new.self.before.items) (sym c.in-None.is) (c.add_outside.ensures containers count right)
