use Rattle.std.proofs.Common.{length}
use Rattle.std.specs.FinMap.{from_entries}
use Rattle.office_records.specs.Tree.{code_cmp}
use Rattle.office_tree.proofs.Listed.{ListedTo}
use Rattle.office_tree.proofs.class_index.class_index_of.Given as goal

-- the records so far are on the lists of their classes
abbrev pub invariant-loop-i : goal.invariant-loop-i
invariant-loop-i l = ListedTo l.rows.classes l.rows.aggregations l.rows.records l.i (from_entries {R = code_cmp} l.class_index.numbers.entries) (length l.class_index.class_lists.first.items) l.class_index.class_lists.class.items
