-- What a list of acts did, place by place: the places of the acts and of their answers are counted from 0. Source: own.
use Rattle.std.specs.Prelude.{◌≡◌, ℕ, ℤ, List, take, slice_get, Some}
use Rattle.office_rules.specs.Acts.{after, answers}
use Rattle.office_rules.specs.State.{State}
use Rattle.office_rules.specs.declared.act.Act.{Act}
use Rattle.office_rules.specs.declared.act.Act.TheVariants.{OpenRun}
use Rattle.office_rules.specs.declared.answer.Answer.TheVariants.{Number, RunClosed, Step}
use Rattle.office_rules.specs.declared.outcome.Outcome.{Outcome}

-- the state just before the act at a place; after the last act at the place behind it
abbrev pub before : State → List Act → ℕ → State
before s acts j = after s (take j acts)

-- the act at this place opened the run of that number, for a day and by somebody
pub record IsOpenedAt (s : State) (acts : List Act) (i run : ℕ) (day : ℤ) (by : List ℕ) : Type 0 where
  pub asked : slice_get acts i ≡ Some (OpenRun day by)
  pub answered : slice_get (answers s acts) i ≡ Some (Number run)

-- the act at this place closed the run
abbrev pub IsClosedAt : State → List Act → ℕ → ℕ → Type 0
IsClosedAt s acts k run = slice_get (answers s acts) k ≡ Some (RunClosed run)

-- the act at this place was a step of a run, which took that record with that outcome
abbrev pub IsStepAt : State → List Act → ℕ → ℕ → Outcome → Type 0
IsStepAt s acts j r outcome = slice_get (answers s acts) j ≡ Some (Step r outcome)
