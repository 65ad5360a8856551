-- The run that is open, after a step that took a record and after the run is closed.
use Rattle.std.proofs.Common.{◌≡◌, ℕ, true, false, cond, List, [], ◌∷◌, length, Option, Some, None, option_map, unwrap_or, pos, refl, ap, ◌∙◌}
use Rattle.office_records.specs.Lists.{numbered, edited}
use Rattle.office_records.proofs.Places.{length-edited}
use Rattle.office_rules.specs.Runs.{run_day, cursor_of, with_outcomes, with_cursor, cursor_at_last, closed, open_run, open_by}
use Rattle.office_rules.specs.State.{State}
use Rattle.office_rules.specs.declared.run.Run.{Run}
use Rattle.office_rules.proofs.Places.{numbered_same}

day_kept : (o : Option Run) (c : ℕ) → unwrap_or (option_map (λ (it : Run). it.day) (option_map (λ (it : Run). record it { cursor = c }) o)) (pos 0) ≡ unwrap_or (option_map (λ it. it.day) o) (pos 0)
day_kept None c = refl
day_kept (Some it) c = refl

pub run_day_kept : (s : State) (run c : ℕ) → run_day (with_outcomes s run (c ∷ [])).office run ≡ run_day s.office run
unfolding with_outcomes
run_day_kept s run c = ap (λ o. unwrap_or (option_map (λ (it : Run). it.day) o) (pos 0)) (numbered_same s.office.runs run _) ∙ day_kept (numbered s.office.runs run) _

pub cursor_moved : (s : State) (run c : ℕ) (it : Run) → numbered s.office.runs run ≡ Some it → cursor_of (with_outcomes s run (c ∷ [])).office run ≡ c
unfolding with_outcomes
cursor_moved s run c it e =
    ap (λ o. unwrap_or (option_map (λ (it : Run). it.cursor) o) 0) (numbered_same s.office.runs run (λ it. record it { cursor = c }) ∙ ap (option_map (λ (it : Run). record it { cursor = c })) e)

-- a run that is open is there, and the last
pub record IsOpened (s : State) (run : ℕ) : Type 0 where
  pub it : Run
  pub there : numbered s.office.runs run ≡ Some it
  pub last : run ≡ length s.office.runs

opened_row : (n run : ℕ) (o : Option Run) → open_by n o ≡ Some run → (it : Run) × (o ≡ Some it) × (run ≡ n)
opened_row n run None e = absurd cc
opened_row n run (Some it) e =
    elim it.is_closed as (λ b. cond b None (Some n) ≡ Some run → (it' : Run) × (Some it ≡ Some it') × (run ≡ n)) [
      | true ↦ λ e. absurd cc
      | false ↦ λ e. (it, refl, cc)
    ] e

pub opened : (s : State) (run : ℕ) → open_run s.office ≡ Some run → IsOpened s run
opened s run e = let found = opened_row (length s.office.runs) run _ e in record {
  it = found.0;
  there = ap (numbered s.office.runs) found.2 ∙ found.1;
  last = found.2;
}

-- the last run's row, changed, is looked at as the change of the row
open_changed : (runs : List Run) (run : ℕ) (f : Run → Run) → run ≡ length runs → open_by (length (edited runs run f)) (numbered (edited runs run f) (length (edited runs run f))) ≡ open_by (length runs) (option_map f (numbered runs (length runs)))
open_changed runs run f last =
    ap (λ k. open_by k (numbered (edited runs run f) k)) (length-edited runs run f)
    ∙ ap (λ k. open_by (length runs) (numbered (edited runs k f) (length runs))) last
    ∙ ap (open_by (length runs)) (numbered_same runs (length runs) f)

open_kept : (n : ℕ) (o : Option Run) (c : ℕ) → open_by n (option_map (λ (it : Run). record it { cursor = c }) o) ≡ open_by n o
open_kept n None c = refl
open_kept n (Some it) c = refl

pub open_after : (s : State) (run c : ℕ) → open_run s.office ≡ Some run → open_run (with_outcomes s run (c ∷ [])).office ≡ Some run
unfolding with_outcomes
open_after s run c e =
    open_changed s.office.runs run (λ it. record it { cursor = c }) (opened s run e).last
    ∙ open_kept (length s.office.runs) (numbered s.office.runs (length s.office.runs)) c
    ∙ e

shut : (n : ℕ) (o : Option Run) → open_by n (option_map (λ (it : Run). record it { is_closed = true }) o) ≡ None
shut n None = refl
shut n (Some it) = refl

pub closed_is_closed : (s : State) (run : ℕ) → run ≡ length s.office.runs → open_run (closed s run).office ≡ None
unfolding closed
closed_is_closed s run last =
    open_changed s.office.runs run (λ it. record it { is_closed = true }) last
    ∙ shut (length s.office.runs) (numbered s.office.runs (length s.office.runs))

length-cursor_at_last : (rs : List ℕ) (runs : List Run) (run : ℕ) → length (cursor_at_last runs run rs) ≡ length runs
length-cursor_at_last [] runs run = refl
length-cursor_at_last (r ∷ rs) runs run = length-cursor_at_last rs (with_cursor runs run r) run ∙ length-edited runs run _

pub length-runs : (s : State) (run : ℕ) (rs : List ℕ) → length (with_outcomes s run rs).office.runs ≡ length s.office.runs
unfolding with_outcomes
length-runs s run rs = length-cursor_at_last rs s.office.runs run
