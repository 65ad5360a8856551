-- The decision that closes the open run: its certificate and its row are written, and they lead to the run closed.
use Rattle.std.proofs.Common.{◌≡◌, ◌≤◌, ℕ, true, List, [], ◌∷◌, length, String, Global, Some, None, sym, ap, ◌∙◌, subst, arith}
use Rattle.std.specs.FinMap.{insert}
use Rattle.std.specs.Option.{is_none}
use Rattle.std.specs.String.{string_bytes}
use Rattle.office_base.specs.declared.refusal.Refusal.TheVariants.{NoRun}
use Rattle.office_records.specs.Conditions.{first_of}
use Rattle.office_records.specs.Lists.{numbered}
use Rattle.office_records.proofs.Places.{numbered_within}
use Rattle.office_records.proofs.Putting.{put-edited}
use Rattle.office_rules.specs.Acts.{IsChangeTo, is_of_change}
use Rattle.office_rules.specs.Conditions.{refusals_of_run_step}
use Rattle.office_rules.specs.Runs.{certificate_of, closed, next_ready, open_run, run_step, step_at, step_of}
use Rattle.office_rules.specs.State.{with_contents, Office, ByteMap}
use Rattle.office_rules.specs.Steps.{answer_at, answer_in, step_run_step}
use Rattle.office_rules.specs.Writes.{CanWrite, all_writes}
use Rattle.office_rules.specs.declared.answer.Answer.TheVariants.{RunClosed}
use Rattle.office_rules.specs.declared.change.Change.{Change}
use Rattle.office_rules.specs.declared.rows.RowWrite.{RowWrite}
use Rattle.office_rules.specs.declared.rows.RowWrite.TheVariants as row_write
use Rattle.office_rules.specs.declared.run.Run.{Run}
use Rattle.office_machine.proofs.Decisions.{accepted_change}

-- a run's row, closed
abbrev pub as_closed : Run → Run
as_closed it = record it { is_closed = true }

-- the certificate, and the row
abbrev pub closing_writes : ℕ → String Global → Run → List RowWrite
closing_writes run text it = row_write.Certificate run text ∷ row_write.Run run (as_closed it) ∷ []

closed_is : (s : Office) (run : ℕ) (it : Run) (text : String Global) (contents : ByteMap) → numbered s.runs run ≡ Some it → string_bytes text ≡ certificate_of s run
    → all_writes (closing_writes run text it) (with_contents s contents) ≡ closed (with_contents s contents) run
unfolding closed
closed_is s run it text contents there reported =
    λ i. with_contents (record s { certificates = insert s.certificates run (reported i); runs = put-edited s.runs run as_closed it there i }) contents

step_is : (s : Office) (run : ℕ) (contents : ByteMap) → open_run s ≡ Some run → next_ready s run ≡ None → step_of (with_contents s contents) (open_run s) ≡ closed (with_contents s contents) run
unfolding run_step
step_is s run contents opened none = ap (step_of (with_contents s contents)) opened ∙ ap (step_at (with_contents s contents) run) none

-- where no record is left, the run is closed with its certificate
pub closing : (s : Office) (run : ℕ) (it : Run) (text : String Global) (change : Change) → open_run s ≡ Some run → next_ready s run ≡ None → numbered s.runs run ≡ Some it
    → string_bytes text ≡ certificate_of s run → change.answer ≡ RunClosed run → change.writes.items ≡ closing_writes run text it
    → IsChangeTo s (λ contents. step_run_step (with_contents s contents)) change
closing s run it text change opened none there reported answered written =
    let within = numbered_within s.runs run it there in
    let accepted : first_of (refusals_of_run_step s) ≡ None = ap (λ o. first_of ((NoRun, is_none o) ∷ [])) opened in
    let answer : answer_in s (open_run s) ≡ RunClosed run = ap (answer_in s) opened ∙ ap (answer_at s run) none in
    let fits : CanWrite s (closing_writes run text it) = (tt, (within, tt)) in
    let few : length change.writes.items ≤ 6 = rw written (omega arith) in
    accepted_change s (refusals_of_run_step s) (answer_in s (open_run s)) (λ contents. step_of (with_contents s contents) (open_run s)) change accepted (answer ∙ sym answered) (ap is_of_change answer) few
    (subst (CanWrite s) (sym written) fits)
    (λ contents. ap (λ ws. all_writes ws (with_contents s contents)) written ∙ closed_is s run it text contents there reported ∙ sym (step_is s run contents opened none))
