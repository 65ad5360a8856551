use Rattle.std.proofs.Common.{◌≡◌, ◌+◌, ◌≤◌, length}
use Rattle.std.specs.Str.Lines.{lines}
use Rattle.office_plan.specs.PlanFile.{plan_from}
use Rattle.office_plan.proofs.plan.take_lines.Given as goal

-- what is left makes of the tree what the whole makes of the tree as it was
abbrev pub invariant-loop-line : goal.invariant-loop-line
invariant-loop-line l = record {
  same : plan_from 1 (lines l.bytes) l.initial.tree ≡ plan_from (l.number + 1) (lines l.rest) l.tree;
  few : l.number + length l.rest ≤ length l.bytes;
}

abbrev pub decreases-loop-line : goal.decreases-loop-line
decreases-loop-line l = length l.rest
