use Rattle.std.proofs.Common.{ap, map}
use Rattle.std.proofs.lemmas.Result.{IfOk-weaker}
use Rattle.office_base.proofs.Exits.{damaged_exit, damaged_so}
use Rattle.office_rules.specs.Tables.{lists_of}
use Rattle.office_rules.proofs.GivenRows.{certificates_broken, certificates_next, entries_broken, entries_next, runs_broken, runs_next, text_row}
use Rattle.office_rules.proofs.tables.Tables.give_runs.Goals as goal

pub returns-in_err-give_all-clause-damaged : goal.returns-in_err-give_all-clause-damaged
returns-in_err-give_all-clause-damaged g c =
    let at = c.requires in
    damaged_exit c.from_residual.result c.in_err-give_all.field-0.0 c.from_residual.ensures.1 c.in_err-give_all.ensures.damaged (runs_broken (lists_of c.args.self.now) _ c.deref.ensures.value _ at)

pub returns-in_err-give_all-2-clause-damaged : goal.returns-in_err-give_all-2-clause-damaged
returns-in_err-give_all-2-clause-damaged g c =
    let at = c.requires in
    let runs = runs_next (lists_of c.args.self.now) _ c.deref.ensures.value _ _ at c.in_ok-give_all.ensures.ok in
    damaged_exit c.from_residual-in_err-give_all-2.result c.in_err-give_all-2.field-0.0 c.from_residual-in_err-give_all-2.ensures.1 c.in_err-give_all-2.ensures.damaged (entries_broken (lists_of c.args.self.now) _ c.deref-2.ensures.value _ runs)

pub returns-clause-ok : goal.returns-clause-ok
returns-clause-ok g c =
    let at = c.requires in
    let runs = runs_next (lists_of c.args.self.now) _ c.deref.ensures.value _ _ at c.in_ok-give_all.ensures.ok in
    let entries = entries_next (lists_of c.args.self.now) _ c.deref-2.ensures.value _ _ runs c.in_ok-give_all-2.ensures.ok in
    IfOk-weaker c.give_all-3.result _ _ (λ _ came. certificates_next (lists_of c.args.self.now) _ (ap (map text_row) c.deref-3.ensures.value) _ _ entries came) c.give_all-3.ensures.ok

pub returns-clause-damaged : goal.returns-clause-damaged
returns-clause-damaged g c =
    let at = c.requires in
    let runs = runs_next (lists_of c.args.self.now) _ c.deref.ensures.value _ _ at c.in_ok-give_all.ensures.ok in
    let entries = entries_next (lists_of c.args.self.now) _ c.deref-2.ensures.value _ _ runs c.in_ok-give_all-2.ensures.ok in
    damaged_so c.give_all-3.result c.give_all-3.ensures.damaged (certificates_broken (lists_of c.args.self.now) _ (ap (map text_row) c.deref-3.ensures.value) _ entries)
