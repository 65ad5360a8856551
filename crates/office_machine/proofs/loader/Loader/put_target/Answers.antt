use Rattle.std.proofs.Common.{[], ◌∷◌, ◌++◌, sym, ap, subst, ◌∙◌}
use Rattle.office_base.proofs.Exits.{damaged_exit}
use Rattle.office_rules.specs.HoldLoading.{hold_rows}
use Rattle.office_rules.specs.Tables.{Begins, TableLists, with_row}
use Rattle.office_rules.specs.declared.table_row.Row.TheVariants as row
use Rattle.office_machine.specs.Collected.{AreCollected}
use Rattle.office_machine.specs.contracts.loader.Loader.{the_view}
use Rattle.office_machine.proofs.Collected.{not_empty, own_rows, with_holds}
use Rattle.office_machine.proofs.NextRows.{target_rows_are}
use Rattle.office_machine.proofs.loader.Loader.put_target.Goals as goal

pub returns-in_err-push_target-clause-damaged : goal.returns-in_err-push_target-clause-damaged
returns-in_err-push_target-clause-damaged c =
    let g = c.self.inside in
    damaged_exit c.from_residual.result c.in_err-push_target.field-0.0 c.from_residual.ensures.1 c.in_err-push_target.ensures.damaged (λ none t begins s represent sound.
    let prefix = subst (λ (u : TableLists). Begins (with_row u (row.Target c.args.hold c.args.target)) t) (sym c.self.view_is) begins in
    let rows = target_rows_are t s represent (hold_rows g.holds) g.targets.items c.args.hold c.args.target (prefix.all_holds (not_empty g.targets.items (c.args.hold, c.args.target))) prefix.targets in
    none (hold_rows g.holds) g.targets.items rows.0 s.office.holds (own_rows g.holds g.targets.items c.self.invariant.targets_exist) sound.limits.holds_few rows.1)

pub invariant_of-self-2 : goal.invariant_of-self-2
invariant_of-self-2 c =
    let g = c.self.inside in
    let grown = c.in_ok-push_target.ensures.ok (hold_rows g.holds) g.targets.items (own_rows g.holds g.targets.items c.self.invariant.targets_exist) in
    subst (λ reported. AreCollected g.heads.items g.statuses.items c.push_target.new.self reported g.entries.entries) (sym c.and-targets.ensures)
    (with_holds g.heads.items g.statuses.items g.holds c.push_target.new.self g.targets.items (g.targets.items ++ (c.args.hold, c.args.target) ∷ []) g.entries.entries c.self.invariant grown.targets_exist)

pub returns-clause-ok : goal.returns-clause-ok
returns-clause-ok c =
    let g = c.self.inside in
    let grown = c.in_ok-push_target.ensures.ok (hold_rows g.holds) g.targets.items (own_rows g.holds g.targets.items c.self.invariant.targets_exist) in
    (λ i. record (the_view g) { holds = grown.columns i; targets = c.and-targets.ensures i })
    ∙ ap (λ (u : TableLists). with_row u (row.Target c.args.hold c.args.target)) c.self.view_is
