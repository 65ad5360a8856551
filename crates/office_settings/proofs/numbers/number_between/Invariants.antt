use Rattle.office_settings.proofs.Digits.{AreRead}
use Rattle.office_settings.proofs.numbers.number_between.Given as goal

-- the digits before a place are read
abbrev pub invariant-loop-i : goal.invariant-loop-i
invariant-loop-i l = AreRead l.token l.most l.number l.i
