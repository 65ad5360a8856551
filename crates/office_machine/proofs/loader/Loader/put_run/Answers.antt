use Rattle.std.proofs.Common.{sym, ap, subst, ◌∙◌}
use Rattle.std.proofs.lemmas.Result.{IfOk-weaker}
use Rattle.office_base.proofs.Exits.{damaged_so}
use Rattle.office_rules.specs.Tables.{Begins, TableLists, with_row}
use Rattle.office_rules.specs.declared.table_row.Row.TheVariants as row
use Rattle.office_machine.specs.contracts.loader.Loader.{the_view}
use Rattle.office_machine.proofs.NextRows.{next_run}
use Rattle.office_machine.proofs.loader.Loader.put_run.Goals as goal

pub returns-clause-ok : goal.returns-clause-ok
returns-clause-ok c =
    IfOk-weaker c.push_numbered.result _ _ (λ _ came. ap (λ rows. record (the_view c.self.inside) { runs = rows }) came ∙ ap (λ (u : TableLists). with_row u (row.Run c.args.number c.args.run)) c.self.view_is) c.push_numbered.ensures.rows

pub returns-clause-damaged : goal.returns-clause-damaged
returns-clause-damaged c =
    damaged_so c.push_numbered.result c.push_numbered.ensures.damaged (λ fails t begins s represent sound.
    let prefix = subst (λ (u : TableLists). Begins (with_row u (row.Run c.args.number c.args.run)) t) (sym c.self.view_is) begins in
    fails (next_run t s represent c.self.inside.runs.items c.args.number c.args.run prefix.runs))
