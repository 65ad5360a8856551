use Rattle.std.proofs.lemmas.Result.{IfOk-weaker}
use Rattle.office_base.proofs.Exits.{damaged_exit, damaged_so}
use Rattle.office_rules.specs.Tables.{lists_of}
use Rattle.office_rules.proofs.GivenRows.{holds_broken, holds_next, targets_broken, targets_next}
use Rattle.office_rules.proofs.tables.Tables.give_holds.Goals as goal

pub returns-in_err-give_all-clause-damaged : goal.returns-in_err-give_all-clause-damaged
returns-in_err-give_all-clause-damaged g c =
    let at = c.requires in
    damaged_exit c.from_residual.result c.in_err-give_all.field-0.0 c.from_residual.ensures.1 c.in_err-give_all.ensures.damaged (holds_broken (lists_of c.args.self.now) _ c.deref.ensures.value _ at)

pub returns-clause-ok : goal.returns-clause-ok
returns-clause-ok g c =
    let at = c.requires in
    let holds = holds_next (lists_of c.args.self.now) _ c.deref.ensures.value _ _ at c.in_ok-give_all.ensures.ok in
    IfOk-weaker c.give_all-2.result _ _ (λ _ came. targets_next (lists_of c.args.self.now) _ c.deref-2.ensures.value _ _ holds came) c.give_all-2.ensures.ok

pub returns-clause-damaged : goal.returns-clause-damaged
returns-clause-damaged g c =
    let at = c.requires in
    let holds = holds_next (lists_of c.args.self.now) _ c.deref.ensures.value _ _ at c.in_ok-give_all.ensures.ok in
    damaged_so c.give_all-2.result c.give_all-2.ensures.damaged (targets_broken (lists_of c.args.self.now) _ c.deref-2.ensures.value _ holds)
