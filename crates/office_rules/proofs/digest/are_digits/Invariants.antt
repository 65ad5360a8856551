use Rattle.office_rules.proofs.LowerDigits.{TellsDigits}
use Rattle.office_rules.proofs.digest.are_digits.Given as goal

-- whether those so far are digits
abbrev pub invariant-loop-i : goal.invariant-loop-i
invariant-loop-i l = TellsDigits l.text l.i l.are
