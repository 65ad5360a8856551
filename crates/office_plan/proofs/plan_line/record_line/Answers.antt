use Rattle.std.proofs.Common.{ℕ, ℤ, List, Option, Err, map}
use Rattle.office_plan.specs.PlanLines.{record_line, place_at, days_at}
use Rattle.office_plan.specs.declared.plan_line.PlanLine.{PlanLine}
use Rattle.office_plan.specs.declared.plan_line.PlanLine.TheVariants.{Record}
use Rattle.office_plan.proofs.PartLemmas.{made-both}
use Rattle.office_plan.proofs.plan_line.record_line.Goals as goal

abbrev recorded : (ℕ × (Option (List ℕ) × Option (List ℕ))) × (ℤ × ℤ) → PlanLine
recorded p = Record p.0.0 p.0.1.0 p.0.1.1 p.1.0 p.1.1

pub returns-in-Err : goal.returns-in-Err
unfolding record_line
returns-in-Err c =
    let words = map (λ word. word.now) c.args.words.now in
    made-both recorded c.in_ok-place.place (place_at words 1) c.days_at.result (days_at words 4) c.both.result (Err c.in-Err.refusal) c.in-Err.is c.both.ensures c.in_ok-place.ensures c.days_at.ensures
