use Rattle.std.proofs.Common.{◌++◌, ◌∷◌, [], refl}
use Rattle.office_tree.proofs.Linking.{class_lists_class}
use Rattle.office_tree.proofs.Relinked.{class_lists_same}
use Rattle.office_tree.proofs.class_lists.ClassLists.add_class.Goals as goal

pub invariant_of-self : goal.invariant_of-self
invariant_of-self c = record {
  linked =
      let s = c.args.self.now in
      class_lists_same (s.first.items ++ 0 ∷ []) s.next.items s.previous.items s.class.items c.push_row.new.rows.items s.next.items s.previous.items s.class.items
      c.push_row.ensures refl refl refl
      (class_lists_class s.first.items s.next.items s.previous.items s.class.items c.args.self.now.linked);
}
