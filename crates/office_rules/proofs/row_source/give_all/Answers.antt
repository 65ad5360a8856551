use Rattle.std.proofs.Common.{◌≡◌, ◌+◌, ℕ, suc, map, take, drop, ap, subst, sym, ◌∙◌, arith}
use Rattle.std.proofs.lemmas.List.{take-append-drop}
use Rattle.office_base.proofs.Exits.{damaged_exit}
use Rattle.office_rules.specs.Tables.{Begins, TableLists, with_row, with_rows}
use Rattle.office_rules.proofs.GivenRows.{with_rows-next}
use Rattle.office_rules.proofs.row_source.give_all.Goals as goal

pub loop-row-preserved : goal.loop-row-preserved
loop-row-preserved g c =
    let next : suc c.loop-row.row-index ≡ c.loop-row.row-index + 1 = omega arith in
    c.in_ok-give.ensures.ok
    ∙ ap (λ (t : TableLists). with_row t (g.T.Kept.row_of c.row-item.result)) c.loop-row.invariant
    ∙ sym (with_rows-next g.T.Kept.row_of (g.I.Intake.content c.args.intake.now) c.args.rows.now c.loop-row.row-index c.row-item.result c.loop-row-test.true c.row-item.is)
    ∙ ap (λ (n : ℕ). with_rows (g.I.Intake.content c.args.intake.now) (map g.T.Kept.row_of (take n c.args.rows.now))) next

pub returns-in_err-give-clause-damaged : goal.returns-in_err-give-clause-damaged
returns-in_err-give-clause-damaged g c =
    let n = suc c.loop-row.row-index in
    damaged_exit c.from_residual.result c.in_err-give.field-0.0 c.from_residual.ensures.1 c.in_err-give.ensures.damaged (λ none. (
      take n c.args.rows.now,
      drop n c.args.rows.now,
      sym (take-append-drop n c.args.rows.now),
      λ t begins.
          none t (subst (λ (u : TableLists). Begins u t)
          (with_rows-next g.T.Kept.row_of (g.I.Intake.content c.args.intake.now) c.args.rows.now c.loop-row.row-index c.row-item.result c.loop-row-test.true c.row-item.is
          ∙ ap (λ (u : TableLists). with_row u (g.T.Kept.row_of c.row-item.result)) (sym c.loop-row.invariant)) begins),
    ))
