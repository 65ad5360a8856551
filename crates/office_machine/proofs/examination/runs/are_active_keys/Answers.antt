use Rattle.std.proofs.Common.{◌≡◌, All, not, subst, sym, true}
use Rattle.office_records.specs.Disposal.{is_ended}
use Rattle.office_records.specs.Lists.{is_some_and, numbered}
use Rattle.office_machine.specs.Keys.{bare_rows}
use Rattle.office_machine.proofs.MapRows.{keys_of_none}
use Rattle.office_machine.proofs.RunTests.{active_of, keys_pass, keys_passed, to_active}
use Rattle.office_machine.proofs.examination.runs.are_active_keys.Goals as goal

pub returns-then-not-are_active-clause-no : goal.returns-then-not-are_active-clause-no
returns-then-not-are_active-clause-no c reported active =
    let statuses = c.args.tree.now.statuses in
    let keys = c.args.keys.now in
    let pass = keys_passed statuses (λ status. not (is_ended status)) (bare_rows keys) (λ r there. let w = (active r).0 there in (w.0, w.1, to_active w.0 w.2)) in
    absurd (cc (c.are_active.ensures.1 (subst (All (λ r. is_some_and (numbered statuses r) (λ status. not (is_ended status)) ≡ true)) (keys_of_none keys) pass), c.if-not-are_active.true))

pub returns-clause-yes : goal.returns-clause-yes
returns-clause-yes c reported r =
    let statuses = c.args.tree.now.statuses in
    let keys = c.args.keys.now in
    let pass = subst (All (λ r. is_some_and (numbered statuses r) (λ status. not (is_ended status)) ≡ true)) (sym (keys_of_none keys)) (c.are_active.ensures.0 c.if-not-are_active.false) in
    let exact = keys_pass statuses (λ status. not (is_ended status)) (bare_rows keys) pass (c.are_active_keyed.ensures.yes reported) r in
    (λ there. let w = exact.0 there in (w.0, w.1, active_of w.0 w.2), λ w. exact.1 (w.0, w.1, to_active w.0 w.2))

pub returns-clause-no : goal.returns-clause-no
returns-clause-no c reported active = c.are_active_keyed.ensures.no reported (λ r status at representing. (active r).1 (status, at, active_of status representing))
