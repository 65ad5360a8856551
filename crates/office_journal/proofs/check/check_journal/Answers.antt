use Rattle.std.proofs.Common.{◌∙◌, ◌+◌, sym, subst, arith, List, ℕ}
use Rattle.office_journal.specs.Journals.{checked}
use Rattle.office_journal.proofs.Split.{AreChecked, EndsAt, all_checked, ends_at, err_checked, is_journal, is_last, none_checked, nothing_checked, nothing_journal, one_checked}
use Rattle.office_journal.proofs.check.check_journal.Goals as goal

pub lines-init : goal.lines-init
lines-init c = none_checked c.args.start.now c.args.text.now

pub returns-in-Err-clause-exact : goal.returns-in-Err-clause-exact
unfolding checked
returns-in-Err-clause-exact c =
    let here : EndsAt c.lines.rest.now c.in-Some.end = ends_at c.lines.rest.now c.in-Some.end (sym c.line_end.ensures ∙ c.in-Some.is) in
    err_checked c.args.start.now c.lines.head c.args.text.now c.lines.rest.now (c.lines.before + 1) c.in-Some.end c.in-Err.wrong c.lines.invariant here
    (sym c.follow.ensures ∙ c.in-Err.is)

pub lines-preserved : goal.lines-preserved
lines-preserved c =
    let here : EndsAt c.lines.rest.now c.in-Some.end = ends_at c.lines.rest.now c.in-Some.end (sym c.line_end.ensures ∙ c.in-Some.is) in
    let after = one_checked c.args.start.now c.lines.head c.in-Ok.head c.args.text.now c.lines.rest.now (c.lines.before + 1) c.in-Some.end c.lines.invariant here
    (sym c.follow.ensures ∙ c.in-Ok.is) in
    subst (λ (xs : List ℕ). AreChecked c.args.start.now c.args.text.now c.in-Ok.head ((c.lines.before + 1) + 1) xs) (sym c.split_at.ensures.back) after

pub returns-in-None-clause-journal : goal.returns-in-None-clause-journal
returns-in-None-clause-journal c =
    is_journal c.args.start.now c.lines.head c.args.text.now c.lines.rest.now (c.lines.before + 1) c.lines.invariant
    (is_last c.lines.rest.now (sym c.line_end.ensures ∙ c.in-None.is))

pub returns-in-None-clause-exact : goal.returns-in-None-clause-exact
unfolding checked
returns-in-None-clause-exact c =
    all_checked c.args.start.now c.lines.head c.args.text.now c.lines.rest.now (c.lines.before + 1) c.lines.invariant
    (is_last c.lines.rest.now (sym c.line_end.ensures ∙ c.in-None.is))

pub returns-clause-journal : goal.returns-clause-journal
returns-clause-journal c =
    nothing_journal c.args.start.now c.lines.head c.args.text.now c.lines.rest.now c.lines.before c.lines.invariant (omega arith)

pub returns-clause-exact : goal.returns-clause-exact
unfolding checked
returns-clause-exact c =
    nothing_checked c.args.start.now c.lines.head c.args.text.now c.lines.rest.now c.lines.before c.lines.invariant (omega arith)
