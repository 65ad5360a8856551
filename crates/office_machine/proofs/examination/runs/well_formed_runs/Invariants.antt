use Rattle.std.proofs.Common.{◌≡◌, ◌≤◌, ℕ, Some}
use Rattle.office_records.specs.Lists.{numbered}
use Rattle.office_rules.specs.Sound.{IsWellFormedRun}
use Rattle.office_rules.specs.declared.run.Run.{Run}
use Rattle.office_machine.proofs.examination.runs.well_formed_runs.Given as goal

-- so it is of those so far
abbrev pub invariant-loop-run : goal.invariant-loop-run
invariant-loop-run l = (n : ℕ) (it : Run) → n ≤ l.run-index → numbered l.runs n ≡ Some it → IsWellFormedRun it
