use Rattle.std.proofs.Common.{◌≡◌, ◌++◌, [], sym, ap, ◌∙◌, append-nil}
use Rattle.office_machine.proofs.RunEntries.{values_ordered}
use Rattle.office_machine.proofs.readings.copy_entries.Goals as goal

pub returns : goal.returns
returns c =
    let none : c.loop-entry.entry-iterator ≡ [] = c.in-None.ensures.steps.0 in
    sym (append-nil c.loop-entry.all.items)
    ∙ ap (λ left. c.loop-entry.all.items ++ left) (sym none)
    ∙ c.loop-entry.invariant
    ∙ values_ordered c.args.entries.now.entries c.values-entry-items.ensures.ordered
