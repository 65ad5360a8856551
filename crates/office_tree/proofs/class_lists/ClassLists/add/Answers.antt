use Rattle.std.proofs.Common.{◌++◌, ◌∷◌, [], refl}
use Rattle.office_tree.proofs.Linking.{class_lists_record}
use Rattle.office_tree.proofs.Relinked.{class_lists_same}
use Rattle.office_tree.proofs.class_lists.ClassLists.add.Goals as goal

pub invariant_of-self : goal.invariant_of-self
invariant_of-self c = record {
  linked =
      let s = c.args.self.now in
      class_lists_same s.first.items (s.next.items ++ 0 ∷ []) (s.previous.items ++ 0 ∷ []) (s.class.items ++ 0 ∷ []) s.first.items c.push_row.new.rows.items c.push_row-2.new.rows.items c.push_row-3.new.rows.items
      refl c.push_row.ensures c.push_row-2.ensures c.push_row-3.ensures
      (class_lists_record s.first.items s.next.items s.previous.items s.class.items c.args.self.now.linked);
}
