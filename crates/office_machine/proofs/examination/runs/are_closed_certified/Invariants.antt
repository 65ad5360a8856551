use Rattle.std.proofs.Common.{◌≡◌, ◌≤◌, ℕ, true, Some}
use Rattle.std.specs.FinMap.{contains_key, from_entries}
use Rattle.std.specs.Ordering.{nat_cmp}
use Rattle.office_records.specs.Lists.{numbered}
use Rattle.office_rules.specs.declared.run.Run.{Run}
use Rattle.office_machine.proofs.examination.runs.are_closed_certified.Given as goal

-- the closed runs so far have certificates
abbrev pub invariant-loop-i : goal.invariant-loop-i
invariant-loop-i l = (run : ℕ) (it : Run) → run ≤ l.i → numbered l.runs run ≡ Some it → it.is_closed ≡ true → contains_key (from_entries {R = nat_cmp} l.certificates.entries) run ≡ true
