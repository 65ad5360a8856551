-- A step of a run leaves held what is held.
use Rattle.std.proofs.Common.{ℕ, Option, Some, None}
use Rattle.office_rules.specs.Meanings.{IsHeldIn}
use Rattle.office_rules.specs.Runs.{run_step, step_at, next_ready, with_outcomes, closed}
use Rattle.office_rules.specs.State.{State}

held-step_at : (s : State) (run held : ℕ) (next : Option ℕ) → IsHeldIn s.office held → IsHeldIn (step_at s run next).office held
unfolding closed with_outcomes
held-step_at s run held None h = h
held-step_at s run held (Some r) h = h

pub held-run_step : (s : State) (run held : ℕ) → IsHeldIn s.office held → IsHeldIn (run_step s run).office held
unfolding run_step
held-run_step s run held h = held-step_at s run held (next_ready s.office run) h
