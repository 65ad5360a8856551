use Rattle.std.proofs.Common.{◌≡◌, ◌∙◌, ◌+◌, ◌++◌, sym, subst, ap, filter, map, Bor, List, ℕ, Vec, Global}
use Rattle.std.specs.List.{All}
use Rattle.office_rules.specs.Certificates.{tabbed}
use Rattle.office_evidence.specs.Parsed.{IsWellFormedLine, columns_of}
use Rattle.office_evidence.specs.declared.parsed.EntryLine.{EntryLine}
use Rattle.office_evidence.proofs.Chains.{given, given_so, memory, passed_any}
use Rattle.office_evidence.proofs.Kept.{is_entry_line}
use Rattle.office_evidence.proofs.Picking.{IsLeft, at_last, next_is, one_more_so, passed_over, read_next}
use Rattle.office_evidence.proofs.lines.entries_in.Goals as goal
use Rattle.office_evidence.proofs.lines.entries_in.Goals.{then-is_entry+in_ok-read_entry+in_ok-push, else-is_entry}

pub returns-in_err-read_entry-clause-every : goal.returns-in_err-read_entry-clause-every
returns-in_err-read_entry-clause-every c them formed same =
    let form : EntryLine → List ℕ = λ it. tabbed (columns_of it) in
    let next = next_is is_entry_line form IsWellFormedLine c.args.lines.now c.loop-line.line-index _ c.loop-line.entries.items them c.loop-line-test.true (sym c.is_entry.ensures ∙ c.if-is_entry.true) formed (c.loop-line.invariant.1 them formed same) in
    passed_any (λ read. read.items ≡ them) c.from_residual.result c.in_err-read_entry.field-0.0 c.from_residual.ensures.1
    (memory c.read_entry.result next.next c.in_err-read_entry.field-0.0 (c.read_entry.ensures.every next.next next.formed next.written) c.in_err-read_entry.was)

pub loop-line-preserved : goal.loop-line-preserved
loop-line-preserved c = (formed_so, left_so)
  where
    formed_so : All IsWellFormedLine c.if-is_entry.entries.items
    formed_so = elim c.if-is_entry.branch [
      | then-is_entry+in_ok-read_entry+in_ok-push w ↦
          one_more_so IsWellFormedLine c.loop-line.entries.items c.if-is_entry.entries.items w.in_ok-read_entry.field-0 c.loop-line.invariant.0
          (given_so IsWellFormedLine w.read_entry.result w.in_ok-read_entry.field-0 w.read_entry.ensures.formed w.in_ok-read_entry.was)
          (ap (λ (v : Vec EntryLine Global). v.items) w.entries-is ∙ w.in_ok-push.ensures.items)
      | else-is_entry w ↦ subst (λ (v : Vec EntryLine Global). All IsWellFormedLine v.items) (sym w.entries-is) c.loop-line.invariant.0
    ]

    left_so :
        (them : List EntryLine) → All IsWellFormedLine them
        → filter is_entry_line (map (λ (line : Bor (List ℕ)). line.now) c.args.lines.now) ≡ map (λ it. tabbed (columns_of it)) them
        → IsLeft is_entry_line (λ (it : EntryLine). tabbed (columns_of it)) IsWellFormedLine c.args.lines.now (c.loop-line.line-index + 1) c.if-is_entry.entries.items them
    left_so them formed same =
        let form : EntryLine → List ℕ = λ it. tabbed (columns_of it) in
        let so_far = c.loop-line.invariant.1 them formed same in
        elim c.if-is_entry.branch [
          | then-is_entry+in_ok-read_entry+in_ok-push w ↦
              let next = next_is is_entry_line form IsWellFormedLine c.args.lines.now c.loop-line.line-index _ c.loop-line.entries.items them c.loop-line-test.true (sym c.is_entry.ensures ∙ w.if-is_entry.true) formed so_far in
              let x : w.in_ok-read_entry.field-0 ≡ next.next = given w.read_entry.result next.next w.in_ok-read_entry.field-0 (w.read_entry.ensures.every next.next next.formed next.written) w.in_ok-read_entry.was in
              read_next is_entry_line form IsWellFormedLine c.args.lines.now c.loop-line.line-index _ c.loop-line.entries.items them c.if-is_entry.entries.items w.in_ok-read_entry.field-0 next x
              (ap (λ (v : Vec EntryLine Global). v.items) w.entries-is ∙ w.in_ok-push.ensures.items)
          | else-is_entry w ↦
              let left = passed_over is_entry_line form IsWellFormedLine c.args.lines.now c.loop-line.line-index _ c.loop-line.entries.items them c.loop-line-test.true (sym c.is_entry.ensures ∙ w.if-is_entry.false) so_far in
              (left.0, left.1 ∙ ap (λ (v : Vec EntryLine Global). v.items ++ left.0) (sym w.entries-is), left.2)
        ]

pub returns-clause-every : goal.returns-clause-every
returns-clause-every c them formed same = at_last is_entry_line (λ (it : EntryLine). tabbed (columns_of it)) IsWellFormedLine c.args.lines.now c.loop-line.line-index c.loop-line.entries.items them c.loop-line-test.false (c.loop-line.invariant.1 them formed same)
