use Rattle.std.proofs.Common.{ap, sym, subst}
use Rattle.std.specs.Map.{values_of}
use Rattle.office_rules.specs.Registers.{due_rows_of}
use Rattle.office_machine.proofs.DueLists.{all_there, selected_numbers, selected_rows}
use Rattle.office_machine.specs.DuePairs.{AreOwnPairs}
use Rattle.office_machine.specs.Selections.{AreSelectedPairs, AreSelectedRows}
use Rattle.office_machine.proofs.parts.Parts.due_rows.Goals as goal

pub invariant_of-result : goal.invariant_of-result
invariant_of-result c =
    let tree = c.args.self.now.tree in
    let keys = c.in_ok-pairs.pairs.keys in
    let are : AreSelectedPairs c.args.selection.now tree keys = subst (λ t. AreSelectedPairs c.args.selection.now t keys) (ap (λ s. s.tree) c.self.view_is) c.in_ok-pairs.ensures in
    subst (AreOwnPairs tree) (sym c.into_iter.ensures.into_iter_gives.0) (all_there c.args.selection.now tree keys are)

pub returns : goal.returns
returns c =
    let s = c.args.self.now in
    let keys = c.in_ok-pairs.pairs.keys in
    let are : AreSelectedPairs c.args.selection.now s.tree keys = subst (λ t. AreSelectedPairs c.args.selection.now t keys) (ap (λ s. s.tree) c.self.view_is) c.in_ok-pairs.ensures in
    subst (λ pairs. AreSelectedRows c.args.selection.now s (due_rows_of s (values_of pairs))) (sym c.into_iter.ensures.into_iter_gives.0)
    (selected_rows c.args.selection.now s (values_of keys) (selected_numbers c.args.selection.now s.tree keys are c.into_iter.ensures.into_iter_gives.4))
