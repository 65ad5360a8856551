use Rattle.std.proofs.Common.{◌∙◌, ◌+◌, ◌++◌, ℕ, List, ap, sym}
use Rattle.office_plan.specs.PlanFile.{due_line}
use Rattle.office_plan.proofs.PlanLemmas.{due_lines-more, due_lines-none}
use Rattle.office_plan.proofs.plan.lines_of.Goals as goal

pub loop-before-init : goal.loop-before-init
loop-before-init c = c.new-out.ensures.items ∙ sym (due_lines-none c.args.tree.now)

pub loop-before-preserved : goal.loop-before-preserved
loop-before-preserved c =
    c.in_ok-push_line.ensures
    ∙ ap (λ (prefix : List ℕ). prefix ++ due_line c.args.tree.now (c.loop-before.before + 1)) c.loop-before.invariant
    ∙ sym (due_lines-more c.args.tree.now c.loop-before.before)
