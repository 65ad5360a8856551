-- What is right of the change by which a run is opened.
use Rattle.std.proofs.Common.{◌≡◌, ◌+◌, ℕ, suc, List, ◌∷◌, length, None, ℤ, refl, sym, ap, subst, ◌∙◌, arith}
use Rattle.office_records.specs.Conditions.{first_of}
use Rattle.office_records.proofs.Putting.{put_next}
use Rattle.office_rules.specs.Acts.{IsChangeTo}
use Rattle.office_rules.specs.Conditions.{refusals_of_open_run}
use Rattle.office_rules.specs.Effects.{after_open_run, new_run}
use Rattle.office_rules.specs.State.{with_contents, Office, with_office}
use Rattle.office_rules.specs.Steps.{step_open_run}
use Rattle.office_rules.specs.Writes.{all_writes, write, write_office, CanWrite}
use Rattle.office_rules.specs.declared.answer.Answer.TheVariants.{Number}
use Rattle.office_rules.specs.declared.change.Change.{Change}
use Rattle.office_rules.specs.declared.rows.RowWrite.{RowWrite}
use Rattle.office_rules.specs.declared.rows.RowWrite.TheVariants as row_write
use Rattle.office_rules.specs.declared.run.Run.{Run}
use Rattle.office_machine.specs.DayWrites.{day_writes}
use Rattle.office_machine.proofs.Decisions.{accepted_change}
use Rattle.office_machine.proofs.DayWrites.{day_led, days_follow, few_days}

-- the next run's row, and the day
abbrev pub opening_writes : Office → ℕ → ℤ → List ℕ → List RowWrite
opening_writes s number day by = row_write.Run number (new_run day by) ∷ day_writes s day

can_open : (s : Office) (day : ℤ) (by : List ℕ) → CanWrite s (opening_writes s (length s.runs + 1) day by)
can_open s day by = ((omega arith, omega arith), days_follow s (write_office (row_write.Run (length s.runs + 1) (new_run day by)) s) day)

pub opening_change : (s : Office) (day : ℤ) (by : List ℕ) (change : Change) → first_of (refusals_of_open_run s day) ≡ None → Number (suc (length s.runs)) ≡ change.answer → change.writes.items ≡ opening_writes s (length s.runs + 1) day by
    → IsChangeTo s (λ contents. step_open_run (with_contents s contents) day by) change
opening_change s day by change accepted same writes =
    accepted_change s (refusals_of_open_run s day) (Number (suc (length s.runs))) (λ contents. with_office (with_contents s contents) (after_open_run s day by)) change accepted same refl
    (let n = ap length writes in let days = few_days s day in omega (arith, n, days)) (subst (CanWrite s) (sym writes) (can_open s day by))
    (λ contents. ap (λ ws. all_writes ws (with_contents s contents)) writes
    ∙ day_led s day (write (row_write.Run (length s.runs + 1) (new_run day by)) (with_contents s contents)) refl
    ∙ ap (λ (runs : List Run). with_contents (record s { runs = runs; day = day }) contents) (put_next s.runs (new_run day by)))
