-- Steps of a run that are decided and made, one after another, are the steps of the definitions.
use Rattle.std.proofs.Common.{◌≡◌, ℕ, zero, suc, Option, Some, None, [], ◌∷◌, refl, sym, ap, subst, ◌∙◌}
use Rattle.std.specs.Option.{is_none}
use Rattle.office_base.specs.declared.refusal.Refusal.TheVariants.{NoRun}
use Rattle.office_rules.specs.Acts.{AreStepsMade, step}
use Rattle.office_rules.specs.Runs.{after_steps, open_run, step_of, whole}
use Rattle.office_rules.specs.State.{Office, State}
use Rattle.office_rules.specs.Steps.{answer_in, stepped}
use Rattle.office_rules.specs.declared.act.Act.TheVariants as act
use Rattle.office_rules.proofs.Changes.{office_changed}
use Rattle.office_rules.proofs.Resuming.{midway_closed, steps_midway}

stepped_by : (s : State) (o : Option ℕ) → (stepped ((NoRun, is_none o) ∷ []) s (answer_in s.office o) (step_of s o)).1 ≡ step_of s o
stepped_by s None = refl
stepped_by s (Some run) = refl

-- a step of the office for that act is a step of the run that is open
step_run : (s : State) → (step s act.RunStep).1 ≡ step_of s (open_run s.office)
unfolding step
step_run s = stepped_by s (open_run s.office)

made_are : (n : ℕ) (s : State) (t : Office) → AreStepsMade n s.office t → t ≡ (after_steps s n).office
made_are zero s t made = sym made
made_are (suc n) s t made =
    let next = step_of s (open_run s.office) in
    let there = office_changed s.office act.RunStep made.0 s.contents made.1 ∙ ap (λ (x : State). x.office) (step_run s) in
    made_are n next t (subst (λ (o : Office). AreStepsMade n o t) there made.2)

-- made until no run is open, they leave what the whole run leaves
pub made_whole : (s : State) (t : Office) (run n : ℕ) → open_run s.office ≡ Some run → AreStepsMade n s.office t → open_run t ≡ None → t ≡ (whole s run).office
made_whole s t run n is_open made closed =
    let same = made_are n s t made in
    same ∙ ap (λ (x : State). x.office) (midway_closed s (after_steps s n) run is_open (steps_midway s run n is_open) (ap open_run (sym same) ∙ closed))
