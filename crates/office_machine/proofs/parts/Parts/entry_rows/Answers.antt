use Rattle.std.proofs.Common.{ap, sym, subst, ◌∙◌}
use Rattle.office_rules.specs.Readings.{all_entries_of}
use Rattle.office_rules.specs.Registers.{entry_rows, entry_rows_of}
use Rattle.office_machine.proofs.RunEntries.{values_ordered}
use Rattle.office_machine.specs.EntryPlaces.{AreOfRecords}
use Rattle.office_machine.proofs.parts.Parts.entry_rows.Goals as goal

pub invariant_of-result : goal.invariant_of-result
invariant_of-result c =
    subst (AreOfRecords c.self.inside.tree) (sym (c.values.ensures.rest ∙ values_ordered c.self.inside.entries.entries c.values.ensures.ordered))
    (subst (λ s. AreOfRecords s.tree (all_entries_of s)) (sym c.self.view_is) c.requires)

pub returns : goal.returns
returns c = ap (entry_rows_of c.self.inside.tree) (c.values.ensures.rest ∙ values_ordered c.self.inside.entries.entries c.values.ensures.ordered) ∙ ap entry_rows c.self.view_is
