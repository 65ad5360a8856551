use Rattle.std.proofs.Common.{◌∙◌, ap}
use Rattle.std.proofs.lemmas.Result.{IfOk-weaker}
use Rattle.office_base.proofs.Exits.{damaged_exit, damaged_so}
use Rattle.office_rules.specs.Tables.{TableLists, lists_of, with_row}
use Rattle.office_rules.specs.declared.table_row.Row.TheVariants as row
use Rattle.office_rules.proofs.GivenRows.{classes_broken, classes_next, day_begins, schedules_broken, schedules_next}
use Rattle.office_rules.proofs.tables.Tables.give_plan.Goals as goal

pub returns-in_err-row-clause-damaged : goal.returns-in_err-row-clause-damaged
returns-in_err-row-clause-damaged g c =
    damaged_exit c.from_residual.result c.in_err-row.field-0.0 c.from_residual.ensures.1 c.in_err-row.ensures.damaged
    (λ none. none (lists_of c.args.self.now) (day_begins (lists_of c.args.self.now) _ (ap (λ (u : TableLists). with_row u (row.Office c.args.self.now.day)) c.requires)))

pub returns-in_err-give_all-clause-damaged : goal.returns-in_err-give_all-clause-damaged
returns-in_err-give_all-clause-damaged g c =
    let at = c.in_ok-row.ensures.ok ∙ ap (λ (u : TableLists). with_row u (row.Office c.args.self.now.day)) c.requires in
    damaged_exit c.from_residual-in_err-give_all.result c.in_err-give_all.field-0.0 c.from_residual-in_err-give_all.ensures.1 c.in_err-give_all.ensures.damaged (schedules_broken (lists_of c.args.self.now) _ c.deref.ensures.value _ at)

pub returns-clause-ok : goal.returns-clause-ok
returns-clause-ok g c =
    let at = c.in_ok-row.ensures.ok ∙ ap (λ (u : TableLists). with_row u (row.Office c.args.self.now.day)) c.requires in
    let schedules = schedules_next (lists_of c.args.self.now) _ c.deref.ensures.value _ _ at c.in_ok-give_all.ensures.ok in
    IfOk-weaker c.give_all-2.result _ _ (λ _ came. classes_next (lists_of c.args.self.now) _ c.deref-2.ensures.value _ _ schedules came) c.give_all-2.ensures.ok

pub returns-clause-damaged : goal.returns-clause-damaged
returns-clause-damaged g c =
    let at = c.in_ok-row.ensures.ok ∙ ap (λ (u : TableLists). with_row u (row.Office c.args.self.now.day)) c.requires in
    let schedules = schedules_next (lists_of c.args.self.now) _ c.deref.ensures.value _ _ at c.in_ok-give_all.ensures.ok in
    damaged_so c.give_all-2.result c.give_all-2.ensures.damaged (classes_broken (lists_of c.args.self.now) _ c.deref-2.ensures.value _ schedules)
