use Rattle.std.proofs.Common.{subst, sym, ◌∙◌}
use Rattle.std.proofs.lemmas.Result.{IfOk-weaker}
use Rattle.office_base.proofs.Exits.{damaged_so}
use Rattle.office_rules.specs.Tables.{Begins, TableLists}
use Rattle.office_rules.proofs.row_source.give.Goals as goal

pub returns-in-Ok-clause-ok : goal.returns-in-Ok-clause-ok
returns-in-Ok-clause-ok g c =
    IfOk-weaker c.row.result _ _ (λ _ came. came ∙ c.in-Ok.ensures (g.I.Intake.content c.args.intake.now)) c.row.ensures.ok

pub returns-in-Ok-clause-damaged : goal.returns-in-Ok-clause-damaged
returns-in-Ok-clause-damaged g c =
    damaged_so c.row.result c.row.ensures.damaged (λ none t begins. none t (subst (λ (u : TableLists). Begins u t) (sym (c.in-Ok.ensures (g.I.Intake.content c.args.intake.now))) begins))
