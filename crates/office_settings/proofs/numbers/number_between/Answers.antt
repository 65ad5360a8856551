use Rattle.std.proofs.Common.{◌+◌, ◌-◌, ◌*◌, get_or, refl}
use Rattle.office_settings.proofs.Digits.{none_over}
use Rattle.office_settings.proofs.numbers.number_between.Goals as goal

pub returns-then-number-most : goal.returns-then-number-most
returns-then-number-most c =
    none_over c.args.token.now c.args.least c.args.most c.loop-i.number (c.loop-i.number * 10 + (get_or c.args.token.now c.loop-i.i 0 - 48)) c.loop-i.i
    (get_or c.args.token.now c.loop-i.i 0) c.loop-i-test.true refl c.if-digit-lt48.false c.if-digit-gt57.false refl c.if-number-most.true
    c.loop-i.invariant
