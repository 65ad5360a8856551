-- What a call came to, as data, and what that means: for the answers, the desk, the file. Source: own.
use Rattle.std.specs.Prelude.{◌≡◌, ◌+◌, ◌≤◌, ℕ, false, List, [], ◌∷◌, ◌++◌, drop, length, take, IfErr, IfOk, Result, Ok, Err, Some}
use Rattle.sqlite.specs.Held.{state}
use Rattle.sqlite.specs.State as sqlite
use Rattle.sqlite.specs.State.{HasCleanDisk}
use Rattle.sqlite_trees.specs.declared.store.Store.{Ghosts}
use Rattle.office_rules.specs.Acts.{after, answers, is_of_change, step}
use Rattle.office_rules.specs.Forms.{AreWellFormed, IsWellFormedAct}
use Rattle.office_rules.specs.Rows.{rows_of}
use Rattle.office_rules.specs.Runs.{IsMidway, open_run}
use Rattle.office_rules.specs.Sound.{IsSound}
use Rattle.office_rules.specs.State.{State}
use Rattle.office_rules.specs.declared.act.Act.{Act}
use Rattle.office_rules.specs.declared.answer.Answer.{Answer}
use Rattle.office_store.specs.RepresentsRows.{ContainsRows, LeavesOffices}
use Rattle.office_store.specs.declared.fault.Fault.{Fault}
use Rattle.office_store.specs.declared.fault.Fault.TheVariants as fault
use Rattle.office_desk.specs.Calling.{LeavesRestOf}
use Rattle.office_desk.specs.Desk.{DeskState}
use Rattle.office_desk.specs.Fates.{LeavesFates}
use Rattle.office_desk.specs.Leaving.{IsAt, LeavesOne, StopsAt, StopsLeaving}
use Rattle.office_desk.specs.Resuming.{AreRunSteps, LeavesMidway}

-- all acts were done, with these answers; or a fault stopped them behind these
pub data ActsOutcome : Type 0 where
  all_done : List Answer → ActsOutcome
  stopped : List Answer → Fault → ActsOutcome

-- the answers that were given
abbrev pub answers_of : ActsOutcome → List Answer
answers_of (all_done told) = told
answers_of (stopped told f) = told

-- the outcome of a call whose answers follow those that were there
abbrev pub acts_outcome : Result (Unit {0}) Fault → (given found : List Answer) → ActsOutcome
acts_outcome (Ok done) given found = all_done (drop (length given) found)
acts_outcome (Err f) given found = stopped (drop (length given) found) f

-- the outcome of a call for one act, as of the list of it alone
abbrev pub act_outcome : Result Answer Fault → ActsOutcome
act_outcome (Ok answer) = all_done (answer ∷ [])
act_outcome (Err f) = stopped [] f

-- the acts that were answered
abbrev pub answered_acts : List Act → ActsOutcome → List Act
answered_acts acts (all_done told) = acts
answered_acts acts (stopped told f) = take (length told) acts

-- a list of acts can come to this: at a fault one was left that is not answered, or there was none
abbrev pub CanComeTo : List Act → ActsOutcome → Type 0
CanComeTo acts (all_done told) = Unit {0}
CanComeTo acts (stopped told f) = (length told ≤ length acts) × LeavesOne f (length told) acts

-- the desk is open with the office after all acts; or, at a fault, as it is there
abbrev pub ActsLead : {S : Type 0} → State → List Act → ActsOutcome → DeskState S → Type 0
ActsLead s acts (all_done told) d = (d.office ≡ (after s acts).office) × (d.is_poisoned ≡ false)
ActsLead s acts (stopped told f) d = StopsAt (after s (take (length told) acts)).office f d

-- a crash leaves the tables of this sound state
pub record ContainsState (s : State) (file : sqlite.State) : Type 0 where
  pub sound : IsSound s
  pub rows : ContainsRows (rows_of s) file

-- a crash leaves the tables after all acts; or, by the fault, those after the answered ones or after one more
abbrev pub ActsLeave : State → List Act → ActsOutcome → sqlite.State → Type 0
ActsLeave s acts (all_done told) file = ContainsState (after s acts) file
ActsLeave s acts (stopped told f) file =
    StopsLeaving (after s (take (length told) acts)) (after s (take (length told + 1) acts)) f file

-- acts were answered from a state, behind the answers that were there, and in memory the desk is where they lead
pub record AreAnswered {S : Type 0} (s : State) (acts : List Act) (o : ActsOutcome) (given found : List Answer)
    (new : DeskState S) : Type 0 where
  pub formed : AreWellFormed acts
  pub fits : CanComeTo acts o
  pub added : found ≡ given ++ answers s (answered_acts acts o)
  pub leads : ActsLead s acts o new

-- only lack of memory stops an act that changes nothing: a refusal, or a record that was added before
abbrev pub StopsChange : State → Act → Result Answer Fault → Type 0
StopsChange s a result = IfErr result (λ f. is_of_change (step s a).0 ≡ false → f ≡ fault.Memory)

-- one act was answered from a state, and in memory the desk is where it leads; where memory ran out, nothing was done
pub record IsActAnswered {S : Type 0} (s : State) (a : Act) (result : Result Answer Fault) (old new : DeskState S) :
    Type 0 where
  pub formed : IsWellFormedAct a
  pub answered : IfOk result (λ answer. answer ≡ (step s a).0)
  pub leads : ActsLead s (a ∷ []) (act_outcome result) new
  pub memory : result ≡ Err fault.Memory → new ≡ old
  pub stops : StopsChange s a result

-- acts from a state came to this: what was answered, and what a crash leaves of tables and contents, where all are steps
-- of a run the run midway
pub record ActsCameTo (s : State) (acts : List Act) (o : ActsOutcome) (file : sqlite.State) : Type 0 where
  pub formed : AreWellFormed acts
  pub fits : CanComeTo acts o
  pub answered : answers_of o ≡ answers s (answered_acts acts o)
  pub leaves : ActsLeave s acts o file
  pub offices : LeavesOffices file
  pub fates : LeavesFates s acts file
  pub midway : (begun : State) (run : ℕ) → AreRunSteps acts → open_run begun.office ≡ Some run → IsMidway begun run s
      → LeavesMidway begun run file

-- ---- a call at a desk

-- this is so of each state at which the desk was, where the disk is clean now
abbrev pub FromEach : {S : Type 0} → Ghosts S → (old new : DeskState S) → (State → Type 0) → Type 0
FromEach g old new P = (s : State) → HasCleanDisk (state g new.connection) → IsAt g s old → P s

-- a disk that is clean now was clean before, and then whatever a crash leaves has what is not the office's as it was;
-- and where each later read was tested, it is
pub record SparesTheRest {S : Type 0} (g : Ghosts S) (old new : DeskState S) : Type 0 where
  pub clean : HasCleanDisk (state g new.connection) → HasCleanDisk (state g old.connection)
  pub shield : (state g old.connection).IsShielded → (state g new.connection).IsShielded
  pub rest : FromEach g old new (λ s. LeavesRestOf g old new)
