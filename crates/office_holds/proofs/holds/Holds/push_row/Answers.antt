use Rattle.std.proofs.Common.{◌≡◌, true, sym, subst, ◌∙◌, arith}
use Rattle.std.specs.Prelude.{nat_le}
use Rattle.std.proofs.lemmas.Bool.Decides.{nat_tests}
use Rattle.office_rules.specs.HoldLoading.{AreRowsOf}
use Rattle.office_holds.proofs.NextHolds.{above-next, fits-next, get-above, more-next, rows-next}
use Rattle.office_holds.proofs.holds.Holds.push_row.Goals as goal

pub returns-then-is_full-clause-damaged : goal.returns-then-is_full-clause-damaged
returns-then-is_full-clause-damaged c _ holds rest fits begins =
    let more = more-next c.args.self.now holds c.args.code c.args.row rest begins in
    let full : nat_le 1_000 _ ≡ true = sym c.is_full.ensures ∙ c.if-is_full.true in
    absurd (grind (arith, nat_tests, more, fits.holds_few, full))

pub returns-then-not-is_next-clause-damaged : goal.returns-then-not-is_next-clause-damaged
returns-then-not-is_next-clause-damaged c _ holds rest fits begins =
    c.is_next.ensures.not_above c.if-not-is_next.true (above-next c.args.self.now holds c.args.code c.args.row rest begins)

pub add-requires-clause-fits : goal.add-requires-clause-fits
add-requires-clause-fits c =
    fits-next c.args.self.now c.args.code c.args.row (c.is_next.ensures.above c.if-not-is_next.false) c.sound.ensures (sym c.is_full.ensures ∙ c.if-is_full.false)

pub add-requires-clause-new : goal.add-requires-clause-new
add-requires-clause-new c = get-above c.args.self.now c.args.code (c.is_next.ensures.above c.if-not-is_next.false)

pub returns-in-Ok-clause-ok : goal.returns-in-Ok-clause-ok
returns-in-Ok-clause-ok c = λ rows targets are.
    subst (AreRowsOf _ targets) (sym c.in-Ok.ensures.ok)
    (rows-next c.args.self.now c.args.code c.args.row (c.is_next.ensures.above c.if-not-is_next.false) rows targets are)
