-- Acts of a name at a desk, each judged in the office in which it is then done. Source: own.
use Rattle.std.specs.Prelude.{◌≡◌, ℕ, ℤ, Bool, List, map, take, slice_get, Some}
use Rattle.std.specs.Option.{is_none}
use Rattle.office_access.specs.Deeds.{Deed}
use Rattle.office_access.specs.Permits.{Permits, denial_of}
use Rattle.office_access.specs.Settings.{Settings}
use Rattle.office_access.specs.declared.person.SignIn.{SignIn}
use Rattle.office_rules.specs.Acts.{after}
use Rattle.office_rules.specs.State.{Office, State}
use Rattle.office_rules.specs.declared.act.Act.{Act}
use Rattle.office_desk.specs.Guarded.{permitted_acts}

-- there is no reason to deny the act to the name
abbrev pub is_permitted : Settings → ℤ → SignIn → Office → Act → Bool
is_permitted settings today name s act = is_none (denial_of settings s today name act)

-- the acts before the first that is not permitted to the name, in the office after those before it
abbrev pub permitted_to : Settings → ℤ → SignIn → State → List Act → List Act
permitted_to settings today name s acts = permitted_acts (is_permitted settings today name) s acts

-- the acts as deeds of the name, on that day and under these settings
abbrev pub deeds_of : Settings → ℤ → SignIn → List Act → List Deed
deeds_of settings today name acts =
    map (λ act. record { settings = settings; today = today; name = name; act = act }) acts

-- an act of the list is not permitted to the name in the office after those before it, which alone are let through
pub record IsDenied (settings : Settings) (today : ℤ) (name : SignIn) (s : State) (acts : List Act) : Type 0 where
  pub place : ℕ
  pub act : Act
  pub there : slice_get acts place ≡ Some act
  pub first : permitted_to settings today name s acts ≡ take place acts
  pub denied : Permits settings (after s (take place acts)).office today name act → ⊥
