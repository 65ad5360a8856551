use Rattle.std.proofs.Common.{◌≡◌, ◌∙◌, ◌+◌, ◌++◌, sym, subst, ap, filter, map, Bor, List, ℕ, Vec, Global}
use Rattle.std.specs.List.{All}
use Rattle.office_rules.specs.Certificates.{tabbed}
use Rattle.office_evidence.specs.Parsed.{IsWellFormedSpent, spent_columns}
use Rattle.office_evidence.specs.declared.parsed.SpentLine.{SpentLine}
use Rattle.office_evidence.proofs.Chains.{given, given_so, memory, passed_any}
use Rattle.office_evidence.proofs.Kept.{is_spent_line}
use Rattle.office_evidence.proofs.Picking.{IsLeft, at_last, next_is, one_more_so, passed_over, read_next}
use Rattle.office_evidence.proofs.lines.spent_in.Goals as goal
use Rattle.office_evidence.proofs.lines.spent_in.Goals.{then-is_spent+in_ok-read_spent+in_ok-push, else-is_spent}

pub returns-in_err-read_spent-clause-every : goal.returns-in_err-read_spent-clause-every
returns-in_err-read_spent-clause-every c them formed same =
    let form : SpentLine → List ℕ = λ it. tabbed (spent_columns it) in
    let next = next_is is_spent_line form IsWellFormedSpent c.args.lines.now c.loop-line.line-index _ c.loop-line.spent.items them c.loop-line-test.true (sym c.is_spent.ensures ∙ c.if-is_spent.true) formed (c.loop-line.invariant.1 them formed same) in
    passed_any (λ read. read.items ≡ them) c.from_residual.result c.in_err-read_spent.field-0.0 c.from_residual.ensures.1
    (memory c.read_spent.result next.next c.in_err-read_spent.field-0.0 (c.read_spent.ensures.every next.next next.formed next.written) c.in_err-read_spent.was)

pub loop-line-preserved : goal.loop-line-preserved
loop-line-preserved c = (formed_so, left_so)
  where
    formed_so : All IsWellFormedSpent c.if-is_spent.spent.items
    formed_so = elim c.if-is_spent.branch [
      | then-is_spent+in_ok-read_spent+in_ok-push w ↦
          one_more_so IsWellFormedSpent c.loop-line.spent.items c.if-is_spent.spent.items w.in_ok-read_spent.field-0 c.loop-line.invariant.0
          (given_so IsWellFormedSpent w.read_spent.result w.in_ok-read_spent.field-0 w.read_spent.ensures.formed w.in_ok-read_spent.was)
          (ap (λ (v : Vec SpentLine Global). v.items) w.spent-is ∙ w.in_ok-push.ensures.items)
      | else-is_spent w ↦ subst (λ (v : Vec SpentLine Global). All IsWellFormedSpent v.items) (sym w.spent-is) c.loop-line.invariant.0
    ]

    left_so :
        (them : List SpentLine) → All IsWellFormedSpent them
        → filter is_spent_line (map (λ (line : Bor (List ℕ)). line.now) c.args.lines.now) ≡ map (λ it. tabbed (spent_columns it)) them
        → IsLeft is_spent_line (λ (it : SpentLine). tabbed (spent_columns it)) IsWellFormedSpent c.args.lines.now (c.loop-line.line-index + 1) c.if-is_spent.spent.items them
    left_so them formed same =
        let form : SpentLine → List ℕ = λ it. tabbed (spent_columns it) in
        let so_far = c.loop-line.invariant.1 them formed same in
        elim c.if-is_spent.branch [
          | then-is_spent+in_ok-read_spent+in_ok-push w ↦
              let next = next_is is_spent_line form IsWellFormedSpent c.args.lines.now c.loop-line.line-index _ c.loop-line.spent.items them c.loop-line-test.true (sym c.is_spent.ensures ∙ w.if-is_spent.true) formed so_far in
              let x : w.in_ok-read_spent.field-0 ≡ next.next = given w.read_spent.result next.next w.in_ok-read_spent.field-0 (w.read_spent.ensures.every next.next next.formed next.written) w.in_ok-read_spent.was in
              read_next is_spent_line form IsWellFormedSpent c.args.lines.now c.loop-line.line-index _ c.loop-line.spent.items them c.if-is_spent.spent.items w.in_ok-read_spent.field-0 next x
              (ap (λ (v : Vec SpentLine Global). v.items) w.spent-is ∙ w.in_ok-push.ensures.items)
          | else-is_spent w ↦
              let left = passed_over is_spent_line form IsWellFormedSpent c.args.lines.now c.loop-line.line-index _ c.loop-line.spent.items them c.loop-line-test.true (sym c.is_spent.ensures ∙ w.if-is_spent.false) so_far in
              (left.0, left.1 ∙ ap (λ (v : Vec SpentLine Global). v.items ++ left.0) (sym w.spent-is), left.2)
        ]

pub returns-clause-every : goal.returns-clause-every
returns-clause-every c them formed same = at_last is_spent_line (λ (it : SpentLine). tabbed (spent_columns it)) IsWellFormedSpent c.args.lines.now c.loop-line.line-index c.loop-line.spent.items them c.loop-line-test.false (c.loop-line.invariant.1 them formed same)
