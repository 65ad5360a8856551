use Rattle.std.proofs.Common.{◌≡◌, ◌++◌, [], ◌∙◌, ap, sym, subst, append-nil}
use Rattle.std.specs.Map.{values_of}
use Rattle.office_machine.specs.Selections.{IsSelectedList}
use Rattle.office_machine.proofs.DueLists.{selected_numbers}
use Rattle.office_machine.proofs.due_list.due_list.Goals as goal

pub returns : goal.returns
returns c =
    let none : c.loop-record_no.record_no-iterator ≡ [] = c.in-None.ensures.steps.0 in
    let list = c.loop-record_no.list.items in
    let same : list ≡ values_of c.in_ok-pairs.pairs.keys =
    sym (append-nil list)
    ∙ ap (λ left. list ++ values_of left) (sym none)
    ∙ c.loop-record_no.invariant
    ∙ ap values_of (c.into_iter-record_no-iterator.ensures.into_iter_gives ∙ c.iter-record_no-items.ensures.rest) in
    subst (IsSelectedList c.args.selection.now c.args.tree.now) (sym same)
    (selected_numbers c.args.selection.now c.args.tree.now c.in_ok-pairs.pairs.keys c.in_ok-pairs.ensures c.iter-record_no-items.ensures.ordered)
