use Rattle.std.proofs.Common.{◌≡◌, ◌∷◌, ◌++◌, take}
use Rattle.std.specs.List.{flat_map}
use Rattle.office_settings.proofs.subjects.joined_from.Given as goal

-- the text has the first word and the others before a place
abbrev pub invariant-loop-token : goal.invariant-loop-token
invariant-loop-token l = l.text.items ≡ l.first ++ flat_map (λ w. 32 ∷ w.now) (take l.token-index l.rest)
