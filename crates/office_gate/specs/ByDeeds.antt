-- An office to which the requests of a gate led, as one to which deeds led that were each done by right. Source: own.
use Rattle.std.specs.Prelude.{◌≡◌, List, [], ◌∷◌}
use Rattle.office_access.specs.Deeds.{Deed, acts_of}
use Rattle.office_access.specs.Settings.{Settings}
use Rattle.office_guard.specs.ByRights.{AllByRights}
use Rattle.office_rules.specs.Acts.{after}
use Rattle.office_rules.specs.Forms.{AreWellFormed}
use Rattle.office_rules.specs.State.{State}

-- each deed was done under settings in force
abbrev pub AllInForce : (Settings → Type 0) → List Deed → Type 0
AllInForce InForce [] = Unit {0}
AllInForce InForce (d ∷ rest) = InForce d.settings × AllInForce InForce rest

-- deeds led from one state to another, each by right and under settings in force
pub record CameByDeeds (InForce : Settings → Type 0) (s t : State) : Type 0 where
  pub deeds : List Deed
  pub by_right : AllByRights s deeds
  pub in_force : AllInForce InForce deeds
  pub formed : AreWellFormed (acts_of deeds)
  pub leads : after s (acts_of deeds) ≡ t
