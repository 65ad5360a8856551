use Rattle.std.proofs.Common.{map}
use Rattle.office_settings.proofs.Cut.{AreCut}
use Rattle.office_settings.proofs.tokens.parted_tokens.Given as goal

-- the words before a place, and those of the rest
abbrev pub invariant-loop-i : goal.invariant-loop-i
invariant-loop-i l = AreCut l.text (map (λ w. w.now) l.tokens.items) l.start l.i
