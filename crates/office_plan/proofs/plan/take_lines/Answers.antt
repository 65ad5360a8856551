use Rattle.std.proofs.Common.{◌∙◌, ◌+◌, arith, ap, refl}
use Rattle.std.specs.Str.Lines.{lines}
use Rattle.office_plan.proofs.PlanLemmas.{plan_from-done, plan_from-end, plan_from-refused}
use Rattle.office_plan.proofs.plan.take_lines.Goals as goal

pub returns-in-Some-2 : goal.returns-in-Some-2
returns-in-Some-2 c =
    c.loop-line.invariant.same
    ∙ plan_from-refused (c.loop-line.number + 1) (lines c.loop-line.rest.now) c.in-Some.line.now (lines c.in-Some.after.now) c.loop-line.tree c.take_line.new.tree c.in_ok-refusal.field-0 c.in-Some-2.refusal c.in-Some.ensures.first c.in_ok-refusal.ensures c.in-Some-2.is

pub loop-line-preserved : goal.loop-line-preserved
loop-line-preserved c = record {
  same = c.loop-line.invariant.same
      ∙ plan_from-done (c.loop-line.number + 1) (lines c.loop-line.rest.now) c.in-Some.line.now (lines c.in-Some.after.now) c.loop-line.tree c.take_line.new.tree c.in_ok-refusal.field-0 c.in-Some.ensures.first c.in_ok-refusal.ensures c.in_default-2.is;
  few = omega (arith, c.loop-line.invariant.few, c.in-Some.ensures.shorter);
}

pub returns : goal.returns
returns c =
    c.loop-line.invariant.same
    ∙ plan_from-end (c.loop-line.number + 1) (lines c.loop-line.rest.now) c.loop-line.tree (ap lines (c.in_default.ensures.none.0 refl))
