-- What an office lives through, stint by stint: the acts that were done, and the state after them. Source: own.
use Rattle.std.specs.Prelude.{◌≡◌, ◌⊎◌, ◌+◌, ℕ, List, [], ◌∷◌, ◌++◌, length, take, Some, None}
use Rattle.std.specs.List.{AllByRecursion}
use Rattle.office_rules.specs.Acts.{after, answers}
use Rattle.office_rules.specs.Runs.{IsMidway, open_run, whole}
use Rattle.office_rules.specs.State.{State}
use Rattle.office_rules.specs.declared.act.Act.{Act}
use Rattle.office_rules.specs.declared.answer.Answer.{Answer}
use Rattle.office_store.specs.declared.fault.Fault.{Fault}
use Rattle.office_store.specs.declared.fault.Fault.TheVariants as fault
use Rattle.office_desk.specs.Fates.{AreContentsAfter}
use Rattle.office_desk.specs.Leaving.{LeavesOne, LeavesStep}
use Rattle.office_desk.specs.Resuming.{AreRunSteps, resumed_answer}
use Rattle.office_life.specs.Opening.{StopsOffice}
use Rattle.office_life.specs.Standing.{IsKnownAt, Stage, stage_after}
use Rattle.office_life.specs.declared.reports.Report.{Report}
use Rattle.office_life.specs.declared.reports.StintEnd.{StintEnd}
use Rattle.office_life.specs.declared.reports.StintEnd.TheVariants as end
use Rattle.office_life.specs.declared.reports.Task.{Task}
use Rattle.office_life.specs.declared.reports.Task.TheVariants as task

-- ---- one stint

-- how many acts or steps were done if a fault stopped them after n answers: at Memory n, at Reopen one more, at Store
-- one or the other
abbrev pub AreDoneAt : Fault → (answered done : ℕ) → Type 0
AreDoneAt fault.Memory n k = k ≡ n
AreDoneAt fault.Store n k = (k ≡ n) ⊎ (k ≡ n + 1)
AreDoneAt fault.Reopen n k = k ≡ n + 1
AreDoneAt fault.Damaged n k = ⊥
AreDoneAt fault.Version n k = ⊥

-- a fault stopped these acts after these answers: one is left that is not answered, and these were done
pub record AreStopped (acts : List Act) (given : List Answer) (f : Fault) (s : State) (done : List Act) : Type 0 where
  pub answered : given ≡ answers s (take (length given) acts)
  pub left : LeavesOne f (length given) acts
  pub count : ℕ
  pub counted : AreDoneAt f (length given) count
  pub are : done ≡ take count acts

-- of these acts a stint did those, from a state, by how it ended
abbrev pub DidActs : List Act → StintEnd → State → List Act → Type 0
DidActs acts (end.FilesShut e) s done = done ≡ []
DidActs acts (end.OfficeShut f) s done = (done ≡ []) × StopsOffice s f
DidActs acts (end.Done given) s done = (done ≡ acts) × (given.items ≡ answers s acts)
DidActs acts (end.Stopped given f) s done = AreStopped acts given.items f s done
DidActs acts (end.Resumed answer) s done = ⊥
DidActs acts (end.Interrupted f) s done = ⊥

-- the resumption of the open run was done with these steps: no run is open after them
pub record IsResumedBy (answer : Answer) (s : State) (done : List Act) : Type 0 where
  pub steps : AreRunSteps done
  pub answered : answer ≡ resumed_answer (open_run s.office)
  pub closed : open_run (after s done).office ≡ None

-- a fault stopped it after some steps: one is left, and these were done
pub record IsInterrupted (f : Fault) (s : State) (done : List Act) : Type 0 where
  pub steps : AreRunSteps done
  pub taken : ℕ
  pub left : LeavesStep s f taken
  pub counted : AreDoneAt f taken (length done)

-- a stint that resumes the open run did these steps, from a state, by how it ended
abbrev pub DidSteps : StintEnd → State → List Act → Type 0
DidSteps (end.FilesShut e) s done = done ≡ []
DidSteps (end.OfficeShut f) s done = (done ≡ []) × StopsOffice s f
DidSteps (end.Done given) s done = ⊥
DidSteps (end.Stopped given f) s done = ⊥
DidSteps (end.Resumed answer) s done = IsResumedBy answer s done
DidSteps (end.Interrupted f) s done = IsInterrupted f s done

-- by what was asked
abbrev pub Did : Task → StintEnd → State → List Act → Type 0
Did (task.Acts acts) it = DidActs acts.items it
Did task.Resumption it = DidSteps it

-- acts that were done lead from a state to the one after them
abbrev pub LeadsBy : (State → List Act → Type 0) → State → State → Type 0
LeadsBy DidSo s u = (done : List Act) × DidSo s done × (u ≡ after s done)

abbrev pub Leads : Task → StintEnd → State → State → Type 0
Leads asked it = LeadsBy (Did asked it)

-- ---- any number of stints

-- one after another, by what was asked in each and what it reports, they did these acts in all
pub data Lived (s : State) : List Task → List Report → List Act → Type 0 where
  began : Lived s [] [] []
  lived : (tasks : List Task) (reports : List Report) (done : List Act) (asked : Task) (it : Report) (more : List Act)
      → Lived s tasks reports done → Did asked it.end (after s done) more
      → Lived s (tasks ++ asked ∷ []) (reports ++ it ∷ []) (done ++ more)

abbrev pub LeadsOn : List Task → List Report → State → State → Type 0
LeadsOn tasks reports = LeadsBy (λ s done. Lived s tasks reports done)

-- it is known for which state the files stand that each of them left, and at which stage the last are
abbrev pub AreKnownFrom : Stage → List Report → Type 0
AreKnownFrom stage [] = Unit {0}
AreKnownFrom stage (it ∷ rest) = IsKnownAt stage it.remains × AreKnownFrom (stage_after stage it.remains) rest

abbrev pub stage_at_end : Stage → List Report → Stage
stage_at_end stage [] = stage
stage_at_end stage (it ∷ rest) = stage_at_end (stage_after stage it.remains) rest

-- each of them resumes the open run
abbrev pub AreResumptions : List Task → Type 0
AreResumptions tasks = AllByRecursion (λ asked. asked ≡ task.Resumption) tasks

-- one of them reports that the resumption is done
abbrev pub IsResumed : StintEnd → Type 0
IsResumed it = (answer : Answer) × (it ≡ end.Resumed answer)

abbrev pub HaveResumed : List Report → Type 0
HaveResumed [] = ⊥
HaveResumed (it ∷ rest) = IsResumed it.end ⊎ HaveResumed rest

-- the office at the end of stints: after all that they did, which reports its contents; where all of them resume the run
-- that is open, midway in it, and where one of them is done, as if the run had never stopped
pub record IsAfterLife (tasks : List Task) (reports : List Report) (s u : State) : Type 0 where
  pub done : List Act
  pub lived : Lived s tasks reports done
  pub state : u ≡ after s done
  pub contents : AreContentsAfter s done u
  pub midway : (run : ℕ) → AreResumptions tasks → open_run s.office ≡ Some run → IsMidway s run u
  pub whole : (run : ℕ) → AreResumptions tasks → open_run s.office ≡ Some run → HaveResumed reports → u ≡ whole s run
