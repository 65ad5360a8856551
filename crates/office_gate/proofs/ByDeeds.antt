-- An office to which the requests of a gate led was led there by deeds by right.
use Rattle.std.proofs.Common.{◌≡◌, ℕ, zero, suc, ℤ, pos, List, [], ◌∷◌, ◌++◌, refl, sym, ap, subst, ◌∙◌}
use Rattle.office_access.specs.Deeds.{Deed, acts_of}
use Rattle.office_access.specs.Settings.{Settings}
use Rattle.office_access.specs.declared.person.SignIn.{SignIn}
use Rattle.office_gate.specs.ByDeeds.{AllInForce, CameByDeeds}
use Rattle.office_gate.specs.Sessions.{CameByRights, carried_out, performed, stayed}
use Rattle.office_guard.specs.ByRights.{AllByRights, steps_by}
use Rattle.office_guard.specs.Permitted.{deeds_of}
use Rattle.office_guard.proofs.ByRights.{joined, permitted, reached, resumed}
use Rattle.office_rules.specs.Acts.{after, step}
use Rattle.office_rules.specs.Forms.{AreWellFormed}
use Rattle.office_rules.specs.Runs.{after_steps}
use Rattle.office_rules.specs.State.{State}
use Rattle.office_rules.specs.declared.act.Act.{Act}

module _ (InForce : Settings → Type 0) where
  in_force_joined : (deeds more : List Deed) → AllInForce InForce deeds → AllInForce InForce more → AllInForce InForce (deeds ++ more)
  in_force_joined [] more all rest = rest
  in_force_joined (d ∷ deeds) more all rest = (all.0, in_force_joined deeds more all.1 rest)

  formed_joined : (deeds more : List Deed) → AreWellFormed (acts_of deeds) → AreWellFormed (acts_of more) → AreWellFormed (acts_of (deeds ++ more))
  formed_joined [] more all rest = rest
  formed_joined (d ∷ deeds) more all rest = (all.0, formed_joined deeds more all.1 rest)

  after_joined : (s : State) (deeds more : List Deed) → after s (acts_of (deeds ++ more)) ≡ after (after s (acts_of deeds)) (acts_of more)
  after_joined s [] more = refl
  after_joined s (d ∷ deeds) more = after_joined (step s d.act).1 deeds more

  -- further deeds of one name under settings in force
  further : (s t u : State) (more : List Deed) → CameByDeeds InForce s t → AllByRights t more → AllInForce InForce more → AreWellFormed (acts_of more) → after t (acts_of more) ≡ u → CameByDeeds InForce s u
  further s t u more it by_right in_force formed leads = record {
    deeds = it.deeds ++ more;
    by_right = joined s it.deeds more it.by_right (subst (λ (v : State). AllByRights v more) (sym it.leads) by_right);
    in_force = in_force_joined it.deeds more it.in_force in_force;
    formed = formed_joined it.deeds more it.formed formed;
    leads = after_joined s it.deeds more ∙ ap (λ (v : State). after v (acts_of more)) it.leads ∙ leads;
  }

  module _ (settings : Settings) (today : ℤ) (name : SignIn) (is : InForce settings) where
    acts_in_force : (acts : List Act) → AllInForce InForce (deeds_of settings today name acts)
    acts_in_force [] = tt
    acts_in_force (a ∷ rest) = (is, acts_in_force rest)

    same_acts : (acts : List Act) → acts_of (deeds_of settings today name acts) ≡ acts
    same_acts [] = refl
    same_acts (a ∷ rest) = ap (λ xs. a ∷ xs) (same_acts rest)

    steps_in_force : (n : ℕ) → AllInForce InForce (steps_by settings today name n)
    steps_in_force zero = tt
    steps_in_force (suc n) = (is, steps_in_force n)

    steps_formed : (n : ℕ) → AreWellFormed (acts_of (steps_by settings today name n))
    steps_formed zero = tt
    steps_formed (suc n) = (tt, steps_formed n)

  pub came_by_deeds : (s t : State) → CameByRights InForce s t → CameByDeeds InForce s t
  came_by_deeds s _ (stayed) = record { deeds = []; by_right = tt; in_force = tt; formed = tt; leads = refl }
  came_by_deeds s _ (performed t settings today name acts came is formed all) =
      let more = deeds_of settings today name acts in
      let same = same_acts settings today name is acts in
      further s t (after t acts) more (came_by_deeds s t came) (permitted t more all) (acts_in_force settings today name is acts) (subst AreWellFormed (sym same) formed) (ap (after t) same)
  came_by_deeds s _ (carried_out t settings name steps came is may) =
      let today : ℤ = pos 0 in
      further s t (after_steps t steps) (steps_by settings today name steps) (came_by_deeds s t came) (resumed settings today name t steps may) (steps_in_force settings today name is steps) (steps_formed settings today name is steps)
      (reached settings today name t steps)
