use Rattle.std.proofs.Common.{sym, ap, subst, ◌∙◌}
use Rattle.std.proofs.lemmas.Result.{IfOk-weaker}
use Rattle.office_base.proofs.Exits.{damaged_so}
use Rattle.office_rules.specs.Tables.{Begins, TableLists, with_row}
use Rattle.office_rules.specs.declared.table_row.Row.TheVariants as row
use Rattle.office_machine.specs.contracts.loader.Loader.{the_view}
use Rattle.office_machine.proofs.NextRows.{record_rows_are}
use Rattle.office_machine.proofs.loader.Loader.put_record.Goals as goal

pub invariant_of-self : goal.invariant_of-self
invariant_of-self c = record { long = c.push_record.ensures.long; targets_exist = c.self.invariant.targets_exist; keyed = c.self.invariant.keyed }

pub returns-clause-ok : goal.returns-clause-ok
returns-clause-ok c =
    IfOk-weaker c.push_record.result _ _ (λ _ came. ap (λ rows. record (the_view c.self.inside) { records = rows }) came ∙ ap (λ (u : TableLists). with_row u (row.Record c.args.number c.args.columns)) c.self.view_is) c.push_record.ensures.ok

pub returns-clause-damaged : goal.returns-clause-damaged
returns-clause-damaged c =
    damaged_so c.push_record.result c.push_record.ensures.damaged (λ fails t begins s represent sound.
    let prefix = subst (λ (u : TableLists). Begins (with_row u (row.Record c.args.number c.args.columns)) t) (sym c.self.view_is) begins in
    let rows = record_rows_are t s represent _ prefix.records in
    fails s.office.tree.records s.office.tree.statuses rows.0 rows.1)
