-- Acts that were each done by right: one by one, or as the steps of a run that was resumed. Source: own.
use Rattle.std.specs.Prelude.{◌≡◌, ◌≢◌, ◌⊎◌, ℕ, zero, suc, ℤ, true, List, [], ◌∷◌, Some, slice_get}
use Rattle.office_access.specs.Deeds.{Deed}
use Rattle.office_access.specs.Permits.{Permits, PermitsResumption}
use Rattle.office_access.specs.Settings.{Settings, signs}
use Rattle.office_access.specs.declared.person.SignIn.{SignIn}
use Rattle.office_rules.specs.Acts.{step}
use Rattle.office_rules.specs.State.{State, Office}
use Rattle.office_rules.specs.declared.act.Act.TheVariants.{RunStep}

-- the deed is a step of the open run, and to carry out that run to its end was permitted to its name
pub record IsStepOfResumption (s : Office) (d : Deed) : Type 0 where
  pub act : d.act ≡ RunStep
  pub permitted : PermitsResumption d.settings s d.name

-- the act was permitted to its name; or it is a step of the open run, and the name was permitted to resume that run
abbrev pub IsByRight : Office → Deed → Type 0
IsByRight s d = Permits d.settings s d.today d.name d.act ⊎ IsStepOfResumption s d

-- each deed was done by right, in the state after the deeds before it
abbrev pub AllByRights : State → List Deed → Type 0
AllByRights s [] = Unit {0}
AllByRights s (d ∷ rest) = IsByRight s.office d × AllByRights (step s d.act).1 rest

-- a number of steps of the open run, as deeds of the name that resumes it
abbrev pub steps_by : Settings → ℤ → SignIn → ℕ → List Deed
steps_by settings today name zero = []
steps_by settings today name (suc n) =
    record { settings = settings; today = today; name = name; act = RunStep } ∷ steps_by settings today name n

-- each deed was done under settings with the rule that whoever opened a run does not carry it out
abbrev pub OpenersDoNotCarryOut : List Deed → Type 0
OpenersDoNotCarryOut [] = Unit {0}
OpenersDoNotCarryOut (d ∷ rest) =
    (d.settings.rules.opener_does_not_carry_out ≡ true) × OpenersDoNotCarryOut rest

-- the deeds at two places are of names that do not sign the same
pub record AreOfTwoNames (deeds : List Deed) (place later : ℕ) : Type 0 where
  pub one : Deed
  pub first : slice_get deeds place ≡ Some one
  pub other : Deed
  pub second : slice_get deeds later ≡ Some other
  pub apart : signs one.settings one.name ≢ signs other.settings other.name
