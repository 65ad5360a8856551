-- That two people are needed: whoever confirmed, and whoever opened the run. Source: own.
use Rattle.std.specs.Prelude.{◌≡◌, true, List, [], ◌∷◌}
use Rattle.office_access.specs.Deeds.{Deed}

-- each deed was done under settings with the rule that whoever confirmed does not open
abbrev pub AllKeepApart : List Deed → Type 0
AllKeepApart [] = Unit {0}
AllKeepApart (d ∷ rest) = (d.settings.rules.confirmer_does_not_open ≡ true) × AllKeepApart rest
