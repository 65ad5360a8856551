use Rattle.std.proofs.Common.{sym, ap, subst, ◌∙◌}
use Rattle.std.proofs.lemmas.Result.{IfOk-weaker}
use Rattle.office_base.proofs.Exits.{damaged_so}
use Rattle.office_holds.proofs.Keys.{either_way}
use Rattle.office_rules.specs.Holds.{HoldMap}
use Rattle.office_rules.specs.Tables.{Begins, TableLists, with_row}
use Rattle.office_rules.specs.declared.table_row.Row.TheVariants as row
use Rattle.office_machine.specs.Collected.{AreCollected}
use Rattle.office_machine.specs.contracts.loader.Loader.{the_view}
use Rattle.office_machine.proofs.Collected.{own_rows, with_holds}
use Rattle.office_machine.proofs.NextRows.{hold_rows_are}
use Rattle.office_machine.proofs.loader.Loader.put_hold.Goals as goal

pub invariant_of-self : goal.invariant_of-self
invariant_of-self c =
    let g = c.self.inside in
    either_way c.push_row.result
    (λ grows. with_holds g.heads.items g.statuses.items g.holds c.push_row.new.self g.targets.items g.targets.items g.entries.entries c.self.invariant (grows _ g.targets.items (own_rows g.holds g.targets.items c.self.invariant.targets_exist)).targets_exist)
    (λ same. subst (λ (h : HoldMap). AreCollected g.heads.items g.statuses.items h g.targets.items g.entries.entries) (sym same) c.self.invariant)
    c.push_row.ensures.ok c.push_row.ensures.err

pub returns-clause-ok : goal.returns-clause-ok
returns-clause-ok c =
    let g = c.self.inside in
    IfOk-weaker c.push_row.result _ _ (λ _ grows.
    ap (λ rows. record (the_view c.self.inside) { holds = rows }) (grows _ g.targets.items (own_rows g.holds g.targets.items c.self.invariant.targets_exist)).columns
    ∙ ap (λ (u : TableLists). with_row u (row.Hold c.args.code c.args.hold)) c.self.view_is) c.push_row.ensures.ok

pub returns-clause-damaged : goal.returns-clause-damaged
returns-clause-damaged c =
    damaged_so c.push_row.result c.push_row.ensures.damaged (λ none t begins s represent sound.
    let prefix = subst (λ (u : TableLists). Begins (with_row u (row.Hold c.args.code c.args.hold)) t) (sym c.self.view_is) begins in
    let rows = hold_rows_are t s represent _ prefix.holds in
    none s.office.holds rows.0 sound.limits.holds_few rows.1)
