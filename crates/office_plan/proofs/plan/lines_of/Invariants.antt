use Rattle.std.proofs.Common.{◌≡◌}
use Rattle.office_plan.specs.PlanFile.{due_lines}
use Rattle.office_plan.proofs.plan.lines_of.Given as goal

abbrev pub invariant-loop-before : goal.invariant-loop-before
invariant-loop-before l = l.out.items ≡ due_lines l.tree l.before
