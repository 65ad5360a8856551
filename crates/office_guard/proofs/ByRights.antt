-- Deeds that were done by right: lists of them, and the steps of a resumption.
use Rattle.std.proofs.Common.{◌≡◌, ◌⊎◌, inl, inr, ℕ, zero, suc, ℤ, ◌&&◌, List, [], ◌∷◌, ◌++◌, Option, Some, None, refl, sym, ap, subst, ◌∙◌}
use Rattle.std.proofs.Math.Bool.{and-false}
use Rattle.std.specs.Option.{option_map, unwrap_or}
use Rattle.office_records.specs.Lists.{is_some_and, numbered}
use Rattle.std.specs.Str.{bytes_eq}
use Rattle.office_access.specs.Deeds.{AllPermitted, Deed, acts_of}
use Rattle.office_access.specs.Eyes.{opener_of}
use Rattle.office_access.specs.Permits.{PermitsResumption}
use Rattle.office_access.specs.Settings.{Settings, signs}
use Rattle.office_access.specs.declared.person.SignIn.{SignIn}
use Rattle.office_desk.proofs.RunSteps.{step_run}
use Rattle.office_guard.specs.ByRights.{AllByRights, steps_by}
use Rattle.office_rules.specs.Acts.{after, step}
use Rattle.office_rules.specs.Runs.{after_steps, closed, next_ready, open_run, opened_by, run_step, step_at, step_of, with_outcomes}
use Rattle.office_rules.specs.State.{Office, State}
use Rattle.office_rules.specs.declared.act.Act.TheVariants.{RunStep}
use Rattle.office_rules.specs.declared.run.Run.{Run}
use Rattle.office_rules.proofs.OpenRun.{closed_is_closed, open_after, opened}
use Rattle.office_rules.proofs.Places.{numbered_same}

-- what was permitted act by act was done by right
pub permitted : (s : State) (deeds : List Deed) → AllPermitted s deeds → AllByRights s deeds
permitted s [] all = tt
permitted s (d ∷ rest) all = (inl all.0, permitted (step s d.act).1 rest all.1)

-- deeds behind deeds
pub joined : (s : State) (deeds more : List Deed) → AllByRights s deeds → AllByRights (after s (acts_of deeds)) more → AllByRights s (deeds ++ more)
joined s [] more all rest = rest
joined s (d ∷ deeds) more all rest = (all.0, joined (step s d.act).1 deeds more all.1 rest)

-- ---- who opened the run, after a step of it

by_kept : (o : Option Run) (r : ℕ) → unwrap_or (option_map (λ (it : Run). it.by) (option_map (λ (it : Run). record it { cursor = r }) o)) [] ≡ unwrap_or (option_map (λ (it : Run). it.by) o) []
by_kept None r = refl
by_kept (Some it) r = refl

opener_kept : (s : State) (run r : ℕ) → opened_by (with_outcomes s run (r ∷ [])).office run ≡ opened_by s.office run
unfolding with_outcomes
opener_kept s run r = ap (λ o. unwrap_or (option_map (λ (it : Run). it.by) o) []) (numbered_same s.office.runs run _) ∙ by_kept (numbered s.office.runs run) _

-- the run is as before, or none is open
abbrev KeepsOpener : Office → Office → Type 0
KeepsOpener s t = (opener_of t ≡ opener_of s) ⊎ (opener_of t ≡ None)

one_step : (s : State) (run : ℕ) (next : Option ℕ) → open_run s.office ≡ Some run → KeepsOpener s.office (step_at s run next).office
one_step s run None is = inr (ap (option_map (opened_by (closed s run).office)) (closed_is_closed s run (opened s run is).last))
one_step s run (Some r) is =
    let t = with_outcomes s run (r ∷ []) in
    inl
    (ap (option_map (opened_by t.office)) (open_after s run r is)
    ∙ ap (λ (by : List ℕ). Some by) (opener_kept s run r)
    ∙ ap (option_map (opened_by s.office)) (sym is))

step_by : (s : State) (o : Option ℕ) → open_run s.office ≡ o → KeepsOpener s.office (step_of s o).office
unfolding run_step
step_by s None is = inl refl
step_by s (Some run) is = one_step s run (next_ready s.office run) is

opener_after : (s : State) → KeepsOpener s.office (step s RunStep).1.office
opener_after s = subst (λ (t : State). KeepsOpener s.office t.office) (sym (step_run s)) (step_by s (open_run s.office) refl)

-- ---- a resumption

-- who may take up the run may still do so after a step
still : (settings : Settings) (s : State) (name : SignIn) → PermitsResumption settings s.office name → PermitsResumption settings (step s RunStep).1.office name
still settings s name may = record {
  grants = may.grants;
  known = may.known;
  right = may.right;
  apart = elim (opener_after s) [
    | inl same ↦ ap (λ (o : Option (List ℕ)). settings.rules.opener_does_not_carry_out && is_some_and o (bytes_eq (signs settings name))) same ∙ may.apart
    | inr none ↦ ap (λ (o : Option (List ℕ)). settings.rules.opener_does_not_carry_out && is_some_and o (bytes_eq (signs settings name))) none ∙ and-false settings.rules.opener_does_not_carry_out
  ];
}

pub resumed : (settings : Settings) (today : ℤ) (name : SignIn) (s : State) (n : ℕ) → PermitsResumption settings s.office name → AllByRights s (steps_by settings today name n)
resumed settings today name s zero may = tt
resumed settings today name s (suc n) may = (inr (record { act = refl; permitted = may }), resumed settings today name (step s RunStep).1 n (still settings s name may))

pub reached : (settings : Settings) (today : ℤ) (name : SignIn) (s : State) (n : ℕ) → after s (acts_of (steps_by settings today name n)) ≡ after_steps s n
reached settings today name s zero = refl
reached settings today name s (suc n) = reached settings today name (step s RunStep).1 n ∙ ap (λ (t : State). after_steps t n) (step_run s)
