use Rattle.std.proofs.Common.{◌≡◌, ℕ, [], ◌∷◌, List, map, sym, ap, subst, ◌∙◌}
use Rattle.std.proofs.lemmas.List.{map-append}
use Rattle.std.proofs.lemmas.Result.{IfOk-weaker}
use Rattle.std.specs.List.{All}
use Rattle.std.specs.Map.{keys_of}
use Rattle.std.specs.declared.cmp.Ordering.TheVariants.{Less}
use Rattle.office_base.proofs.Exits.{damaged_so}
use Rattle.office_holds.proofs.Keys.{either_way}
use Rattle.office_rules.specs.declared.entry.Entry.{Entry}
use Rattle.office_rules.specs.State.{entry_cmp}
use Rattle.office_rules.specs.Tables.{Begins, TableLists, with_row}
use Rattle.office_rules.specs.declared.table_row.Row.TheVariants as row
use Rattle.office_machine.specs.Collected.{AreCollected}
use Rattle.office_machine.specs.contracts.loader.Loader.{the_view}
use Rattle.office_machine.proofs.Collected.{with_entry}
use Rattle.office_machine.proofs.NextRows.{entry_next}
use Rattle.office_machine.proofs.loader.Loader.put_entry.Goals as goal

pub invariant_of-self : goal.invariant_of-self
invariant_of-self c =
    let g = c.self.inside in
    either_way c.push_keyed.result
    (λ came. subst (AreCollected g.heads.items g.statuses.items g.holds g.targets.items) (sym came) (with_entry g.heads.items g.statuses.items g.holds g.targets.items g.entries.entries c.args.entry c.self.invariant))
    (λ same. subst (AreCollected g.heads.items g.statuses.items g.holds g.targets.items) (sym same) c.self.invariant)
    c.push_keyed.ensures.ok c.push_keyed.ensures.err

pub returns-clause-ok : goal.returns-clause-ok
returns-clause-ok c =
    IfOk-weaker c.push_keyed.result _ _ (λ _ came.
    ap (λ es. record (the_view c.self.inside) { entries = es }) (ap (map (λ e. e.1)) came ∙ map-append (λ e. e.1) c.self.inside.entries.entries (((c.args.entry.run, c.args.entry.record_no), c.args.entry) ∷ []))
    ∙ ap (λ (u : TableLists). with_row u (row.Entry c.args.entry)) c.self.view_is) c.push_keyed.ensures.ok

pub returns-clause-damaged : goal.returns-clause-damaged
returns-clause-damaged c =
    damaged_so c.push_keyed.result c.push_keyed.ensures.damaged (λ fails t begins s represent sound.
    let prefix = subst (λ (u : TableLists). Begins (with_row u (row.Entry c.args.entry)) t) (sym c.self.view_is) begins in
    fails (subst (λ (es : List ((ℕ × ℕ) × Entry)). All (λ q. entry_cmp q (c.args.entry.run, c.args.entry.record_no) ≡ Less) (keys_of es)) c.self.invariant.keyed
    (entry_next t s represent (map (λ e. e.1) c.self.inside.entries.entries) c.args.entry prefix.entries)))
