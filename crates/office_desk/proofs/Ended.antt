-- What steps of the open run came to, where they end.
use Rattle.std.proofs.Common.{◌≡◌, ℕ, suc, None, Option, Some, Result, Ok, Err, refl, sym, ap, subst, ◌∙◌}
use Rattle.sqlite.specs.Held.{state}
use Rattle.sqlite.specs.State.{HasCleanDisk}
use Rattle.sqlite_trees.specs.declared.store.Store.{Ghosts}
use Rattle.office_rules.specs.Runs.{IsMidway, after_steps, open_run, whole}
use Rattle.office_rules.specs.State.{State}
use Rattle.office_rules.specs.declared.answer.Answer.{Answer}
use Rattle.office_store.specs.declared.fault.Fault.{Fault}
use Rattle.office_desk.specs.Desk.{DeskState}
use Rattle.office_desk.specs.Leaving.{IsAt}
use Rattle.office_desk.specs.Resumptions.{AreStepsStopped, IsResumed, RunCameTo, run_outcome}
use Rattle.office_desk.proofs.LeftFates.{AreFatesReported}
use Rattle.office_desk.proofs.LeftOffices.{offices_representing, offices_stopped}
use Rattle.office_desk.proofs.RunSteps.{GoesOn, midway_resumed, midway_steps, none_resumed, steps_none}
use Rattle.office_desk.proofs.StepFates.{fates_resumed}
use Rattle.office_desk.proofs.StepsSoFar.{AreStepsDone}

-- steps of the open run lead on the way
abbrev pub IsOnTheWay : Type 0
IsOnTheWay = (s : State) (run n : ℕ) → open_run s.office ≡ Some run → IsMidway s run (after_steps s n)

-- where no run is open any more it is the whole of the run
abbrev pub Closes : Type 0
Closes = (s t : State) (run : ℕ) → open_run s.office ≡ Some run → IsMidway s run t → open_run t.office ≡ None → t ≡ whole s run

module _ (on : GoesOn) (closes : Closes) {S : Type 0} (g : Ghosts S) (s : State) (old new : DeskState S) where
  -- where steps ended with no run open, the run is whole
  steps_whole : (answer : Answer) (it : AreStepsDone g s answer old new) (begun : State) (run : ℕ) → open_run begun.office ≡ Some run → IsMidway begun run s → after_steps s it.taken.count ≡ whole begun run
  steps_whole answer it begun run is m = closes begun (after_steps s it.taken.count) run is (midway_steps on it.taken.count begun s run is m) it.ended

  pub run_answered : (answer : Answer) → s.office ≡ old.office → AreStepsDone g s answer old new → IsResumed s answer old new
  run_answered answer same it = record {
    answered = it.answered;
    is_open = it.is_open;
    office = λ begun run is m. it.taken.office ∙ ap (λ (u : State). u.office) (steps_whole answer it begun run is m);
    same = λ none. it.taken.office ∙ ap (λ (u : State). u.office) (steps_none it.taken.count s (ap open_run same ∙ none)) ∙ same;
  }

  module _ (reported : AreFatesReported) (way : IsOnTheWay) (clean : HasCleanDisk (state g new.connection)) (at : IsAt g s old) where
    -- steps ended with no run open, by the run that was open before
    run_ended : (answer : Answer) (o : Option ℕ) → open_run s.office ≡ o → AreStepsDone g s answer old new → RunCameTo g s (run_outcome (Ok answer) o) new
    run_ended answer (Some run) is it =
        let r : Result Answer Fault = Ok answer in
        let n = it.taken.count in
        let there = it.taken.represents clean at in
        record {
          fits = is;
          leads = subst (λ (u : State). IsAt g u new) (steps_whole answer it s run is (way s run 0 is)) there;
          whole = λ still begun other is_open m. subst (λ (u : State). IsAt g u new) (steps_whole answer it begun other is_open m) there;
          midway = λ begun other is_open m. midway_resumed g r begun s other new on is_open m (n, it.ended, there) tt;
          none = λ none. absurd (let both : None ≡ Some run = sym none ∙ is in cc);
          offices = offices_representing g (after_steps s n) new there;
          fates = fates_resumed reported g s new r old at (n, it.ended, there) tt;
        }
    run_ended answer None is it =
        let r : Result Answer Fault = Ok answer in
        let n = it.taken.count in
        let there = it.taken.represents clean at in
        let stays : IsAt g s new = subst (λ (u : State). IsAt g u new) (steps_none n s is) there in
        record {
          fits = is;
          leads = stays;
          whole = λ still begun other is_open m. subst (λ (u : State). IsAt g u new) (steps_whole answer it begun other is_open m) there;
          midway = λ begun other is_open m. midway_resumed g r begun s other new on is_open m (n, it.ended, there) tt;
          none = λ none. none_resumed g r s new none stays tt;
          offices = offices_representing g (after_steps s n) new there;
          fates = fates_resumed reported g s new r old at (n, it.ended, there) tt;
        }

    pub run_came : (answer : Answer) → AreStepsDone g s answer old new → RunCameTo g s (run_outcome (Ok answer) (open_run old.office)) new
    run_came answer it = run_ended answer (open_run old.office) (ap open_run (sym at.office)) it

    pub run_interrupted : (f : Fault) → AreStepsStopped g s f old new → RunCameTo g s (run_outcome (Err f) (open_run old.office)) new
    run_interrupted f it =
        let r : Result Answer Fault = Err f in
        let left = it.left clean at in
        record {
          fits = tt;
          leads = (it.count, it.one_more, it.stops, left);
          whole = λ still. absurd (still f refl);
          midway = λ begun run is m. midway_resumed g r begun s run new on is m tt (it.count, left);
          none = λ none. none_resumed g r s new none tt (it.count, left);
          offices = offices_stopped (after_steps s it.count) (after_steps s (suc it.count)) f (state g new.connection) left;
          fates = fates_resumed reported g s new r old at tt (it.count, left);
        }
