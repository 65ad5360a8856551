-- Who asks for something, on which day, under the settings of that moment. Source: own.
use Rattle.std.specs.Prelude.{ℤ}
use Rattle.office_access.specs.Settings.{Settings}
use Rattle.office_access.specs.declared.person.SignIn.{SignIn}
use Rattle.office_guard.specs.declared.keeper.Keeper.{Keeper}

-- the name that signed in, the day, and the settings of that moment
pub record Visitor : Type 0 where
  pub settings : Settings
  pub name : SignIn
  pub today : ℤ

-- the visitor for whom a keeper asks
abbrev pub visitor_of : Keeper → Visitor
visitor_of keeper = record { settings = keeper.policy.now; name = keeper.name; today = keeper.today }
