-- What was done over time: by whom, on which day, under which settings. Source: own.
use Rattle.std.specs.Prelude.{◌≡◌, ℕ, ℤ, List, [], ◌∷◌, map, Option, Some, slice_get}
use Rattle.office_records.specs.declared.head.Confirmation.{Confirmation}
use Rattle.office_rules.specs.Acts.{step}
use Rattle.office_rules.specs.State.{State}
use Rattle.office_rules.specs.declared.act.Act.{Act}
use Rattle.office_rules.specs.declared.act.Act.TheVariants.{Confirm}
use Rattle.office_access.specs.Permits.{Permits}
use Rattle.office_access.specs.Settings.{Settings, signs}
use Rattle.office_access.specs.declared.person.SignIn.{SignIn}

-- an act, the name that signed in, the day of the clock, and the settings of that moment
pub record Deed : Type 0 where
  pub settings : Settings
  pub today : ℤ
  pub name : SignIn
  pub act : Act

-- the acts alone
abbrev pub acts_of : List Deed → List Act
acts_of deeds = map (λ deed. deed.act) deeds

-- each deed was permitted to its name, in the state after the deeds before it
abbrev pub AllPermitted : State → List Deed → Type 0
AllPermitted s [] = Unit {0}
AllPermitted s (d ∷ rest) = Permits d.settings s.office d.today d.name d.act × AllPermitted (step s d.act).1 rest

-- a deed confirmed the record, for that action and on that day, and the confirmation is by what its name signs
pub record IsSignedIn (deeds : List Deed) (r : ℕ) (it : Confirmation) : Type 0 where
  pub place : ℕ
  pub deed : Deed
  pub done : slice_get deeds place ≡ Some deed
  pub act : deed.act ≡ Confirm it.day r it.action it.by
  pub signed : signs deed.settings deed.name ≡ it.by
