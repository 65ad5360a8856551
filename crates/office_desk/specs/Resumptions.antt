-- What a resumption came to, as data, and what that means: for the answer, the desk, the file. Source: own.
use Rattle.std.specs.Prelude.{◌≡◌, ◌≢◌, ℕ, suc, false, MatchResult, Option, Some, None, Result, Ok, Err}
use Rattle.sqlite.specs.Held.{state}
use Rattle.sqlite.specs.State as sqlite
use Rattle.sqlite.specs.State.{HasCleanDisk}
use Rattle.sqlite_trees.specs.declared.store.Store.{Ghosts}
use Rattle.office_rules.specs.Rows.{rows_of}
use Rattle.office_rules.specs.Runs.{IsMidway, after_steps, open_run, whole}
use Rattle.office_rules.specs.State.{State}
use Rattle.office_rules.specs.declared.answer.Answer.{Answer}
use Rattle.office_store.specs.RepresentsRows.{ContainsRows, LeavesOffices}
use Rattle.office_store.specs.declared.fault.Fault.{Fault}
use Rattle.office_store.specs.declared.fault.Fault.TheVariants as fault
use Rattle.office_desk.specs.Desk.{DeskState}
use Rattle.office_desk.specs.Fates.{LeavesStepFates}
use Rattle.office_desk.specs.Leaving.{IsAt, LeavesRowsOf, LeavesStep, StopsAt, StopsLeaving}
use Rattle.office_desk.specs.Resuming.{LeavesMidway, resumed_answer}

-- this run was open and is closed; or none was open; or a fault stopped the steps
pub data RunOutcome : Type 0 where
  run_closed : ℕ → RunOutcome
  none_open : RunOutcome
  run_stopped : Fault → RunOutcome

-- the outcome of a call, by the run that was open
abbrev pub run_outcome : Result Answer Fault → Option ℕ → RunOutcome
run_outcome (Ok answer) (Some run) = run_closed run
run_outcome (Ok answer) None = none_open
run_outcome (Err f) was_open = run_stopped f

-- no fault stopped the steps
abbrev pub IsNotStopped : RunOutcome → Type 0
IsNotStopped o = (f : Fault) → o ≢ run_stopped f

-- an outcome fits the state from which the run was resumed
abbrev pub IsRunOf : State → RunOutcome → Type 0
IsRunOf s (run_closed run) = open_run s.office ≡ Some run
IsRunOf s none_open = open_run s.office ≡ None
IsRunOf s (run_stopped f) = Unit {0}

-- ---- in memory

-- the answer is the number of the run that was closed, or that none was open; and the desk is open, with its office
pub record IsResumed {S : Type 0} (s : State) (answer : Answer) (old new : DeskState S) : Type 0 where
  pub answered : answer ≡ resumed_answer (open_run old.office)
  pub is_open : new.is_poisoned ≡ false
  pub office : (begun : State) (run : ℕ) → open_run begun.office ≡ Some run → IsMidway begun run s
      → new.office ≡ (whole begun run).office
  pub same : open_run old.office ≡ None → new.office ≡ old.office

-- a fault stopped the steps after so many; and what a crash leaves where the disk is clean
pub record AreStepsStopped {S : Type 0} (g : Ghosts S) (s : State) (f : Fault) (old new : DeskState S) : Type 0 where
  pub memory : open_run old.office ≡ None → f ≡ fault.Memory → new ≡ old
  pub count : ℕ
  pub one_more : LeavesStep s f count
  pub stops : StopsAt (after_steps s count).office f new
  pub left : HasCleanDisk (state g new.connection) → IsAt g s old
      → StopsLeaving (after_steps s count) (after_steps s (suc count)) f (state g new.connection)

-- a resumption is answered; or a fault stopped it after so many steps, in memory and in the file
abbrev pub IsRunAnswered : {S : Type 0} → Ghosts S → State → Result Answer Fault → (old new : DeskState S) → Type 0
IsRunAnswered g s result old new =
    MatchResult result (λ answer. IsResumed s answer old new) (λ f. AreStepsStopped g s f old new)

-- ---- at a desk over a clean disk

-- where the desk is: at the state of the run that never stopped, or where no run was open; or it stopped after some
-- steps, and one is left
abbrev pub RunLeads : {S : Type 0} → Ghosts S → State → RunOutcome → DeskState S → Type 0
RunLeads g s (run_closed run) d = IsAt g (whole s run) d
RunLeads g s none_open d = IsAt g s d
RunLeads g s (run_stopped f) d =
    (n : ℕ) × LeavesStep s f n × StopsAt (after_steps s n).office f d
    × StopsLeaving (after_steps s n) (after_steps s (suc n)) f (state g d.connection)

-- the open run was resumed from a state and came to this
pub record RunCameTo {S : Type 0} (g : Ghosts S) (s : State) (o : RunOutcome) (d : DeskState S) : Type 0 where
  pub fits : IsRunOf s o
  pub leads : RunLeads g s o d
  -- wherever it had been stopped on the way from an earlier state, it ends as the run that never stopped
  pub whole : IsNotStopped o → (begun : State) (run : ℕ) → open_run begun.office ≡ Some run → IsMidway begun run s
      → IsAt g (whole begun run) d
  -- a crash leaves the run midway; where none is open, the state; always an office's tables
  pub midway : (begun : State) (run : ℕ) → open_run begun.office ≡ Some run → IsMidway begun run s
      → LeavesMidway begun run (state g d.connection)
  pub none : open_run s.office ≡ None → LeavesRowsOf s (state g d.connection)
  pub offices : LeavesOffices (state g d.connection)
  pub fates : LeavesStepFates s (state g d.connection)

-- ---- in a file, once the desk is closed

-- a crash leaves the tables of these states; where the steps stopped, one is left
abbrev pub RunLeaves : State → RunOutcome → sqlite.State → Type 0
RunLeaves s (run_closed run) file = ContainsRows (rows_of (whole s run)) file
RunLeaves s none_open file = ContainsRows (rows_of s) file
RunLeaves s (run_stopped f) file =
    (n : ℕ) × LeavesStep s f n × StopsLeaving (after_steps s n) (after_steps s (suc n)) f file

-- the same of the file
pub record RunLeft (o : RunOutcome) (file : sqlite.State) (s : State) : Type 0 where
  pub fits : IsRunOf s o
  pub leaves : RunLeaves s o file
  pub whole : IsNotStopped o → (begun : State) (run : ℕ) → open_run begun.office ≡ Some run → IsMidway begun run s
      → ContainsRows (rows_of (whole begun run)) file
  pub midway : (begun : State) (run : ℕ) → open_run begun.office ≡ Some run → IsMidway begun run s
      → LeavesMidway begun run file
  pub none : open_run s.office ≡ None → LeavesRowsOf s file
  pub fates : LeavesStepFates s file
