use Rattle.std.proofs.Common.{◌+◌, ◌≤◌, length, sym, ap, subst, ◌∙◌, arith}
use Rattle.office_records.specs.Candidates.{HasNoCandidateAbove, IsNextCandidate}
use Rattle.office_records.specs.Tree.{has_record}
use Rattle.office_records.proofs.Reading.{record_within}
use Rattle.office_rules.specs.State.{Office}
use Rattle.office_machine.proofs.LookedAt.{looked_by_row}
use Rattle.office_machine.proofs.NextCandidate.{next_counts, next_is, next_passed, next_passed_counts, no_next, no_next_counts}
use Rattle.office_machine.proofs.NextReady.{next_by_row}
use Rattle.office_machine.proofs.parts.Parts.next_ready_counted.Goals as goal
use Rattle.office_machine.proofs.parts.Parts.next_ready_counted.Goals.{After-is_ready}

-- the candidate that was found is the next one of the office
found : (c : After-is_ready) → IsNextCandidate c.args.self.now.tree c.loop-record_no.above c.in-Some.record_no
found c = subst (λ (o : Office). IsNextCandidate o.tree c.loop-record_no.above c.in-Some.record_no) c.self.view_is c.in-Some.ensures.found

within : (c : After-is_ready) → c.in-Some.record_no ≤ length c.args.self.now.tree.records
within c = (record_within c.args.self.now.tree c.in-Some.record_no (ap (λ (o : Office). has_record o.tree c.in-Some.record_no) (sym c.self.view_is) ∙ c.in-Some.ensures.there)).1

pub returns-then-is_ready-clause-next : goal.returns-then-is_ready-clause-next
returns-then-is_ready-clause-next c =
    let s = c.args.self.now in
    let it = c.run-it.result.now in
    let w = (goal.at.returns-then-is_ready-clause-next c).After-is_ready in
    sym (next_by_row s c.args.run it c.run-it.ensures ∙ c.loop-record_no.invariant.next ∙ next_is s it.day c.loop-record_no.above c.in-Some.record_no (found w) (within w) (sym c.is_ready.ensures ∙ c.if-is_ready.true))

pub returns-then-is_ready-clause-count : goal.returns-then-is_ready-clause-count
returns-then-is_ready-clause-count c =
    let s = c.args.self.now in
    let it = c.run-it.result.now in
    let w = (goal.at.returns-then-is_ready-clause-count c).After-is_ready in
    sym (looked_by_row s c.args.run it c.run-it.ensures ∙ c.loop-record_no.invariant.looked ∙ ap (λ n. c.loop-record_no.count + n) (next_counts s it.day c.loop-record_no.above c.in-Some.record_no (found w) (within w) (sym c.is_ready.ensures ∙ c.if-is_ready.true)))

pub loop-record_no-preserved : goal.loop-record_no-preserved
loop-record_no-preserved c =
    let s = c.args.self.now in
    let it = c.run-it.result.now in
    let was = c.loop-record_no.invariant in
    let w = (goal.at.loop-record_no-preserved c).After-is_ready in
    let next = found w in
    let not = sym c.is_ready.ensures ∙ c.if-is_ready.false in
    let one = next_passed_counts s it.day c.loop-record_no.above c.in-Some.record_no next (within w) not in
    record {
      next = was.next ∙ next_passed s it.day c.loop-record_no.above c.in-Some.record_no next (within w) not;
      looked = omega (arith, was.looked, one);
      few = omega (arith, was.few, next.higher);
    }

pub returns-clause-next : goal.returns-clause-next
returns-clause-next c =
    let s = c.args.self.now in
    let it = c.run-it.result.now in
    let none = subst (λ (o : Office). HasNoCandidateAbove o.tree c.loop-record_no.above) c.self.view_is c.in_default.ensures.none in
    sym (next_by_row s c.args.run it c.run-it.ensures ∙ c.loop-record_no.invariant.next ∙ no_next s it.day c.loop-record_no.above none)

pub returns-clause-count : goal.returns-clause-count
returns-clause-count c =
    let s = c.args.self.now in
    let it = c.run-it.result.now in
    let none = subst (λ (o : Office). HasNoCandidateAbove o.tree c.loop-record_no.above) c.self.view_is c.in_default.ensures.none in
    let left = no_next_counts s it.day c.loop-record_no.above none in
    let all = looked_by_row s c.args.run it c.run-it.ensures in
    omega (arith, all, c.loop-record_no.invariant.looked, left)
