use Rattle.std.specs.BTreeSet.{contains}
use Rattle.office_machine.specs.Selections.{due_selected}
use Rattle.office_machine.proofs.DueLists.{AreFound, pair_cmp}
use Rattle.office_machine.proofs.due_list.due_pairs.Given as goal

-- the pairs are those of the records so far
abbrev pub invariant-loop-before : goal.invariant-loop-before
invariant-loop-before l = AreFound (due_selected l.selection l.tree) l.before (contains pair_cmp l.pairs)
