use Rattle.std.proofs.Common.{get_or, arith}
use Rattle.std.proofs.lemmas.List.{get_or_default}
use Rattle.office_rules.proofs.LowerDigits.{tells_more, tells_none}
use Rattle.office_rules.proofs.digest.are_digits.Goals as goal

pub loop-i-init : goal.loop-i-init
loop-i-init c = tells_none c.args.text.now

pub loop-i-preserved : goal.loop-i-preserved
loop-i-preserved c =
    let text = c.args.text.now in
    let i = c.loop-i.i in
    tells_more text i (get_or text i 0) c.loop-i.are c.is_digit-are.result c.loop-i-test.true (λ d. get_or_default text i 0 d c.loop-i-test.true) c.loop-i.invariant c.is_digit-are.ensures.yes c.is_digit-are.ensures.no

pub returns-clause-yes : goal.returns-clause-yes
returns-clause-yes c are k d low =
    let all = c.loop-i-test.false in
    c.loop-i.invariant.yes are k d (omega (arith, all, low)) low

pub returns-clause-no : goal.returns-clause-no
returns-clause-no c are all = c.loop-i.invariant.no are all
