-- Acts that a guard lets through, each judged in the office in which it is then done. Source: own.
use Rattle.std.specs.Prelude.{◌≡◌, Bool, true, cond, ◌&&◌, List, [], ◌∷◌, IfOk, Result, Ok, Err}
use Rattle.office_rules.specs.Acts.{step}
use Rattle.office_rules.specs.State.{Office, State}
use Rattle.office_rules.specs.declared.act.Act.{Act}
use Rattle.office_rules.specs.declared.answer.Answer.{Answer}
use Rattle.office_store.specs.declared.fault.Fault.{Fault}
use Rattle.office_desk.specs.Desk.{DeskState}
use Rattle.office_desk.specs.Outcomes.{ActsOutcome, AreAnswered, acts_outcome}

-- each act is permitted in the office after those before it
abbrev pub are_permitted : (Office → Act → Bool) → State → List Act → Bool
are_permitted permits s [] = true
are_permitted permits s (a ∷ rest) = permits s.office a && are_permitted permits (step s a).1 rest

-- the acts before the first that is not permitted in the office after those before it
abbrev pub permitted_acts : (Office → Act → Bool) → State → List Act → List Act
permitted_acts permits s [] = []
permitted_acts permits s (a ∷ rest) = cond (permits s.office a) (a ∷ permitted_acts permits (step s a).1 rest) []

-- the outcome of the acts that were let through
abbrev pub guarded_outcome : Result Bool Fault → (given found : List Answer) → ActsOutcome
guarded_outcome (Ok all) given found = acts_outcome (Ok tt) given found
guarded_outcome (Err f) given found = acts_outcome (Err f) given found

-- the acts before the first that is not permitted were answered, as by a call for them alone; and whether they are all
-- is reported
pub record AreGuarded {S : Type 0} (permits : Office → Act → Bool) (s : State) (acts : List Act)
    (result : Result Bool Fault) (given found : List Answer) (new : DeskState S) : Type 0 where
  pub all : IfOk result (λ is_all. is_all ≡ are_permitted permits s acts)
  pub answered : AreAnswered s (permitted_acts permits s acts) (guarded_outcome result given found) given found new
