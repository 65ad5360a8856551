use Rattle.std.proofs.Common.{◌≡◌, [], length}
use Rattle.std.specs.FinMap.{empty, from_entries, get}
use Rattle.std.specs.List.{All}
use Rattle.std.specs.Prelude.{IsSome}
use Rattle.office_tree.specs.ClassIndex.{HaveNumbers}
use Rattle.office_records.specs.Tree.{code_cmp}
use Rattle.office_tree.proofs.class_index.numbered_classes.Given as goal

-- the classes so far have numbers
abbrev pub invariant-loop-code : goal.invariant-loop-code
invariant-loop-code l = record {
  named : All (λ code. IsSome (get (from_entries {R = code_cmp} l.class_index.numbers.entries) code.now)) l.yielded;
  numbers : HaveNumbers empty (from_entries l.class_index.numbers.entries) (length l.class_index.class_lists.first.items);
  class : l.class_index.class_lists.class.items ≡ [];
}
