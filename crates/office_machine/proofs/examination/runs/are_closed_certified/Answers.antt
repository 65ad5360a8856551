use Rattle.std.proofs.Common.{◌≡◌, ◌+◌, ◌∙◌, ℕ, true, ap, sym}
use Rattle.std.specs.FinMap.{contains_key, from_entries}
use Rattle.std.specs.Ordering.{nat_cmp}
use Rattle.office_rules.specs.declared.run.Run.{Run}
use Rattle.office_machine.proofs.RunTests.{numbers_all, numbers_more, read_at}
use Rattle.office_machine.proofs.examination.runs.are_closed_certified.Goals as goal
use Rattle.office_machine.proofs.examination.runs.are_closed_certified.Goals.{else-runs-i-via-then-runs-i+else-not-is_certified, else-runs-i-via-else-runs-i}

pub loop-i-preserved : goal.loop-i-preserved
loop-i-preserved c =
    let runs = c.args.runs.now in
    let has = λ (run : ℕ). contains_key (from_entries {R = nat_cmp} c.args.certificates.now.entries) run ≡ true in
    let it = c.index-runs-i.result in
    let here : it.is_closed ≡ true → has (c.loop-i.i + 1) = elim c.else-runs-i.branch [
      | else-runs-i-via-then-runs-i+else-not-is_certified w ↦ λ closed. sym w.is_certified.ensures ∙ w.if-not-is_certified.false
      | else-runs-i-via-else-runs-i w ↦ λ closed. absurd (cc (closed, w.if-runs-i.false))
    ] in
    numbers_more (λ (run : ℕ) (it : Run). it.is_closed ≡ true → has run) runs c.loop-i.i it (read_at runs c.loop-i.i it c.loop-i-test.true c.index-runs-i.is) here (λ n y low at. c.loop-i.invariant n y low at)

pub returns-then-not-is_certified-clause-no : goal.returns-then-not-is_certified-clause-no
returns-then-not-is_certified-clause-no c reported all =
    let there = read_at c.args.runs.now c.loop-i.i c.index-runs-i.result c.loop-i-test.true c.index-runs-i.is in
    let closed = ap (λ it. it.is_closed) c.index-runs-i.is ∙ c.if-runs-i.true in
    let has = c.is_certified.ensures ∙ all (c.loop-i.i + 1) c.index-runs-i.result there closed in
    absurd (cc (has, c.if-not-is_certified.true))

pub returns-clause-yes : goal.returns-clause-yes
returns-clause-yes c reported =
    numbers_all (λ (run : ℕ) (it : Run). it.is_closed ≡ true → contains_key (from_entries {R = nat_cmp} c.args.certificates.now.entries) run ≡ true) c.args.runs.now c.loop-i.i c.loop-i-test.false (λ n y low at. c.loop-i.invariant n y low at)
