use Rattle.std.proofs.Common.{refl, sym, ap, subst, ◌∙◌}
use Rattle.std.specs.Cmp.{nat_cmp_total}
use Rattle.std.specs.Ordering.{nat_cmp}
use Rattle.office_base.proofs.Exits.{damaged_exit}
use Rattle.office_base.proofs.Maps.{entries_of_ordered}
use Rattle.office_rules.specs.Loading.{AreTablesOf, HaveKeys}
use Rattle.office_rules.specs.State.{ByteMap, entry_cmp}
use Rattle.office_rules.specs.Tables.{Represents, TableLists}
use Rattle.office_rules.proofs.Accepted.{tree_sound}
use Rattle.office_rules.proofs.SoundMaps.{entry_total}
use Rattle.office_machine.specs.Collected.{days_of}
use Rattle.office_machine.specs.contracts.parts.Parts as loaded
use Rattle.office_machine.specs.contracts.loader.Loader.{the_view}
use Rattle.office_machine.proofs.FoundTables.{some_contents, tables_of, tree_rows}
use Rattle.office_machine.proofs.Collected.{own_rows}
use Rattle.office_machine.proofs.loader.Loader.parts.Goals as goal

pub returns-in_err-tree-clause-damaged : goal.returns-in_err-tree-clause-damaged
returns-in_err-tree-clause-damaged c =
    damaged_exit c.from_residual.result c.in_err-tree.field-0.0 c.from_residual.ensures.1 c.in_err-tree.ensures.damaged
    (λ none s represent sound. none s.office.tree (tree_sound s sound) (tree_rows (the_view c.self.inside) s (subst (λ (u : TableLists). Represents u s) (sym c.self.view_is) represent)))

pub returns-clause-parts : goal.returns-clause-parts
returns-clause-parts c =
    let g = c.self.inside in
    let office = loaded.the_view (record { tree = c.in_ok-tree.tree; holds = g.holds; runs = g.runs; entries = g.entries; certificates = g.certificates; day = c.in-Some.day }) in
    subst (λ (u : TableLists). AreTablesOf u office) c.self.view_is
    (tables_of (the_view g) office (ap days_of c.in-Some.is) c.in_ok-tree.ensures.ok (own_rows g.holds g.targets.items c.self.invariant.targets_exist) refl
    (entries_of_ordered entry_cmp entry_total g.entries.entries c.ordered.ensures ∙ sym c.self.invariant.keyed)
    (entries_of_ordered nat_cmp nat_cmp_total g.certificates.entries c.ordered-2.ensures))

pub returns-clause-keys : goal.returns-clause-keys
returns-clause-keys c =
    subst (λ (u : TableLists). (contents : ByteMap) × HaveKeys contents u.contents) c.self.view_is (some_contents c.self.inside.contents c.ascending.ensures)
