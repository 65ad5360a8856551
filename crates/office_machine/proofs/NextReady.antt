-- The least ready record above a run's cursor, looked for number by number.
use Rattle.std.proofs.Common.{◌≡◌, ◌<◌, ◌+◌, ◌-◌, ℕ, Bool, true, false, cond, length, find, Option, Some, ℤ, pos, unwrap_or, option_map, ap, ◌∙◌}
use Rattle.office_records.specs.Lists.{numbered, numbers_after}
use Rattle.office_records.proofs.Numbers.{one_after}
use Rattle.office_rules.specs.Disposing.{is_ready}
use Rattle.office_rules.specs.Runs.{next_ready}
use Rattle.office_rules.specs.State.{Office}
use Rattle.office_rules.specs.declared.run.Run.{Run}

-- the least ready record above that number
abbrev pub ready_after : Office → ℤ → ℕ → Option ℕ
ready_after s day before = find (is_ready s day) (numbers_after before (length s.tree.records - before))

-- the next one is the least above the cursor, for the run's day
pub next_by_row : (s : Office) (run : ℕ) (it : Run) → numbered s.runs run ≡ Some it → next_ready s run ≡ ready_after s it.day it.cursor
next_by_row s run it there =
    ap (λ o. ready_after s (unwrap_or (option_map (λ (row : Run). row.day) o) (pos 0)) (unwrap_or (option_map (λ (row : Run). row.cursor) o) 0)) there

-- the next number is tried first
try_next : (s : Office) (day : ℤ) (before : ℕ) (ready : Bool) → before < length s.tree.records → is_ready s day (before + 1) ≡ ready
    → ready_after s day before ≡ cond ready (Some (before + 1)) (ready_after s day (before + 1))
try_next s day before ready h is =
    ap (find (is_ready s day)) (one_after (length s.tree.records) before h)
    ∙ ap (λ b. cond b (Some (before + 1)) (ready_after s day (before + 1))) is

pub ready_here : (s : Office) (day : ℤ) (before : ℕ) → before < length s.tree.records → is_ready s day (before + 1) ≡ true → ready_after s day before ≡ Some (before + 1)
ready_here s day before = try_next s day before true

pub ready_later : (s : Office) (day : ℤ) (before : ℕ) → before < length s.tree.records → is_ready s day (before + 1) ≡ false → ready_after s day before ≡ ready_after s day (before + 1)
ready_later s day before = try_next s day before false
