use Rattle.std.proofs.Common.{sym, ap, subst, ◌∙◌}
use Rattle.std.proofs.lemmas.Result.{IfOk-weaker}
use Rattle.office_base.proofs.Exits.{damaged_so}
use Rattle.office_rules.specs.Tables.{Begins, TableLists, with_row}
use Rattle.office_rules.specs.declared.table_row.Row.TheVariants as row
use Rattle.office_machine.specs.contracts.loader.Loader.{the_view}
use Rattle.office_machine.proofs.NextRows.{next_class}
use Rattle.office_machine.proofs.loader.Loader.put_class.Goals as goal

pub returns-clause-ok : goal.returns-clause-ok
returns-clause-ok c =
    IfOk-weaker c.push_keyed.result _ _ (λ _ came. ap (λ es. record (the_view c.self.inside) { classes = es }) came ∙ ap (λ (u : TableLists). with_row u (row.Class c.args.code c.args.class)) c.self.view_is) c.push_keyed.ensures.ok

pub returns-clause-damaged : goal.returns-clause-damaged
returns-clause-damaged c =
    damaged_so c.push_keyed.result c.push_keyed.ensures.damaged (λ fails t begins s represent sound.
    let prefix = subst (λ (u : TableLists). Begins (with_row u (row.Class c.args.code c.args.class)) t) (sym c.self.view_is) begins in
    fails (next_class t s represent c.self.inside.classes.entries c.args.code c.args.class prefix.classes))
