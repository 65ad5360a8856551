-- Where stints end: the contents that their acts report, and a run that they resume.
use Rattle.std.proofs.Common.{◌≡◌, ◌⊎◌, ◌∙◌, inl, inr, ℕ, List, [], ◌∷◌, ◌++◌, length, Some, None, refl, sym, ap, subst}
use Rattle.office_rules.specs.Acts.{after}
use Rattle.office_rules.specs.Runs.{IsMidway, after_steps, open_run, whole}
use Rattle.office_rules.specs.Sound.{IsSound}
use Rattle.office_rules.specs.State.{State}
use Rattle.office_rules.specs.declared.act.Act.{Act}
use Rattle.office_rules.specs.declared.act.Act.TheVariants as act
use Rattle.office_desk.proofs.Found.{after-append}
use Rattle.office_desk.proofs.RunSteps.{steps_none}
use Rattle.office_desk.proofs.StepFates.{after_run, run_steps}
use Rattle.office_desk.specs.Fates.{AreContentsAfter}
use Rattle.office_desk.specs.Resuming.{AreRunSteps}
use Rattle.office_life.specs.Life.{AreResumptions, Did, DidSteps, HaveResumed, IsAfterLife, IsResumed, LeadsOn, Lived, began, lived}
use Rattle.office_life.specs.declared.reports.Report.{Report}
use Rattle.office_life.specs.declared.reports.StintEnd.{StintEnd}
use Rattle.office_life.specs.declared.reports.StintEnd.TheVariants as end
use Rattle.office_life.specs.declared.reports.Task.{Task}
use Rattle.office_life.specs.declared.reports.Task.TheVariants as task

abbrev pub HaveFates : Type 0
HaveFates = (s : State) (acts : List Act) → IsSound s → AreContentsAfter s acts (after s acts)

abbrev pub AreOnTheWay : Type 0
AreOnTheWay = (s : State) (run steps : ℕ) → open_run s.office ≡ Some run → IsMidway s run (after_steps s steps)

abbrev pub AreClosed : Type 0
AreClosed = (s t : State) (run : ℕ) → open_run s.office ≡ Some run → IsMidway s run t → open_run t.office ≡ None → t ≡ whole s run

-- steps of the open run are so many steps
are_so_many : (acts : List Act) → AreRunSteps acts → acts ≡ run_steps (length acts)
are_so_many [] all = refl
are_so_many (a ∷ acts) (is, all) = ap (λ (x : Act). x ∷ acts) is ∙ ap (λ (xs : List Act). act.RunStep ∷ xs) (are_so_many acts all)

after_as_steps : (acts : List Act) (s : State) → AreRunSteps acts → after s acts ≡ after_steps s (length acts)
after_as_steps acts s all = ap (after s) (are_so_many acts all) ∙ after_run (length acts) s

-- and where no run is open, none
after_none : (acts : List Act) (s : State) → AreRunSteps acts → open_run s.office ≡ None → after s acts ≡ s
after_none acts s all none = after_as_steps acts s all ∙ steps_none (length acts) s none

all_steps : (first more : List Act) → AreRunSteps first → AreRunSteps more → AreRunSteps (first ++ more)
all_steps [] more a b = b
all_steps (x ∷ first) more (is, a) b = (is, all_steps first more a b)

-- the last of a list that is one longer
all_but_last : (tasks : List Task) (asked : Task) → AreResumptions (tasks ++ asked ∷ []) → AreResumptions tasks × (asked ≡ task.Resumption)
all_but_last [] asked all = (tt, all.0)
all_but_last (x ∷ tasks) asked (is, all) = let rest = all_but_last tasks asked all in ((is, rest.0), rest.1)

or_last : (reports : List Report) (it : Report) → HaveResumed (reports ++ it ∷ []) → HaveResumed reports ⊎ IsResumed it.end
or_last [] it (inl last) = inr last
or_last [] it (inr none) = absurd none
or_last (x ∷ reports) it (inl first) = inl (inl first)
or_last (x ∷ reports) it (inr rest) = elim (or_last reports it rest) [ inl before ↦ inl (inr before) | inr last ↦ inr last ]

-- what a stint did that resumed the run
did_steps : (it : StintEnd) (s : State) (done : List Act) → DidSteps it s done → AreRunSteps done
did_steps (end.FilesShut e) s done did = subst AreRunSteps (sym did) tt
did_steps (end.OfficeShut f) s done did = subst AreRunSteps (sym did.0) tt
did_steps (end.Done found) s done did = absurd did
did_steps (end.Stopped found f) s done did = absurd did
did_steps (end.Resumed answer) s done did = did.steps
did_steps (end.Interrupted f) s done did = did.steps

did_resume : (it : StintEnd) (s : State) (done : List Act) → IsResumed it → DidSteps it s done → open_run (after s done).office ≡ None
did_resume it s done (answer, is) did = (subst (λ (e : StintEnd). DidSteps e s done) is did).closed

module _ (s : State) where
  -- all that was done were steps
  pub steps_alone : (tasks : List Task) (reports : List Report) (done : List Act) → Lived s tasks reports done → AreResumptions tasks → AreRunSteps done
  steps_alone tasks reports done (began) all = tt
  steps_alone tasks reports done (lived before told first asked it more all did) each =
      let parts = all_but_last before asked each in
      all_steps first more (steps_alone before told first all parts.0) (did_steps it.end (after s first) more (subst (λ (t : Task). Did t it.end (after s first) more) parts.1 did))

  -- and once a resumption was done, no run is open
  pub none_open : (tasks : List Task) (reports : List Report) (done : List Act) → Lived s tasks reports done → AreResumptions tasks → HaveResumed reports → open_run (after s done).office ≡ None
  none_open tasks reports done (began) all resumed = absurd resumed
  none_open tasks reports done (lived before told first asked it more all did) each resumed =
      let parts = all_but_last before asked each in
      let steps = subst (λ (t : Task). Did t it.end (after s first) more) parts.1 did in
      let joined = ap (λ (t : State). open_run t.office) (after-append s first more) in
      elim (or_last told it resumed) [
        | inl earlier ↦
            let none = none_open before told first all parts.0 earlier in
            joined ∙ ap (λ (t : State). open_run t.office) (after_none more (after s first) (did_steps it.end (after s first) more steps) none) ∙ none
        | inr last ↦ joined ∙ did_resume it.end (after s first) more last steps
      ]

  module _ (fates : HaveFates) (on : AreOnTheWay) (closed : AreClosed) (sound : IsSound s) (tasks : List Task) (reports : List Report) (u : State) where
    pub after_life : LeadsOn tasks reports s u → IsAfterLife tasks reports s u
    after_life (done, all, is) =
        let midway = λ (run : ℕ) (each : AreResumptions tasks) (is_open : open_run s.office ≡ Some run).
        subst (λ (t : State). IsMidway s run t) (sym (is ∙ after_as_steps done s (steps_alone tasks reports done all each))) (on s run (length done) is_open) in
        record {
          done = done;
          lived = all;
          state = is;
          contents = subst (λ (t : State). AreContentsAfter s done t) (sym is) (fates s done sound);
          midway = midway;
          whole = λ run each is_open resumed. closed s u run is_open (midway run each is_open) (ap (λ (t : State). open_run t.office) is ∙ none_open tasks reports done all each resumed);
        }
