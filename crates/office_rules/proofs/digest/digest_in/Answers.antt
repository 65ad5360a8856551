use Rattle.std.proofs.Common.{All, subst, sym}
use Rattle.office_rules.specs.Digits.{IsLowerDigit}
use Rattle.office_rules.proofs.LowerDigits.{digest_digits}
use Rattle.office_rules.proofs.digest.digest_in.Goals as goal

pub returns-then-not-are_digits-clause-none : goal.returns-then-not-are_digits-clause-none
returns-then-not-are_digits-clause-none c _ digest formed same =
    c.are_digits.ensures.no c.if-not-are_digits.true (subst (All IsLowerDigit) (sym same) (digest_digits digest formed))
