-- What is reported of acts that a visitor asks for.
use Rattle.std.proofs.Common.{◌≡◌, ◌&&◌, ◌∷◌, [], List, Option, Some, None, false, refl}
use Rattle.std.specs.Option.{is_none}
use Rattle.office_access.specs.Permits.{denial_of}
use Rattle.office_access.specs.declared.denial.Denial.{Denial}
use Rattle.office_desk.specs.Guarded.{are_permitted}
use Rattle.office_gate.specs.Performing.{denial_in}
use Rattle.office_gate.specs.Visitors.{Visitor}
use Rattle.office_guard.specs.Permitted.{is_permitted}
use Rattle.office_records.specs.Lists.{or_else}
use Rattle.office_rules.specs.Acts.{step}
use Rattle.office_rules.specs.State.{State}
use Rattle.office_rules.specs.declared.act.Act.{Act}

module _ (v : Visitor) (it : Denial) where
  by_first : (o : Option Denial) (s : State) (rest : List Act)
      → (denial_in v s rest ≡ Some it → are_permitted (is_permitted v.settings v.today v.name) s rest ≡ false)
      → or_else o (denial_in v s rest) ≡ Some it → (is_none o && are_permitted (is_permitted v.settings v.today v.name) s rest) ≡ false
  by_first None s rest more h = more h
  by_first (Some d) s rest more h = refl

  -- with a denial, not all acts are permitted
  pub not_all : (s : State) (acts : List Act) → denial_in v s acts ≡ Some it → are_permitted (is_permitted v.settings v.today v.name) s acts ≡ false
  not_all s [] h = absurd cc
  not_all s (a ∷ rest) h =
      by_first (denial_of v.settings s.office v.today v.name a) (step s a).1 rest (not_all (step s a).1 rest) h
