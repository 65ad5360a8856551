use Rattle.std.proofs.Common.{subst, sym, ◌∙◌}
use Rattle.office_rules.specs.HoldLoading.{AreRowsOf}
use Rattle.office_holds.proofs.TargetCounts.{FitsHoldLimits-taken}
use Rattle.office_holds.proofs.TargetRows.{not_taken, rows-taken}
use Rattle.office_holds.proofs.holds.Holds.push_target.Goals as goal

pub put_target-requires : goal.put_target-requires
put_target-requires c = FitsHoldLimits-taken c.args.self.now c.args.code.now c.args.target c.sound.ensures (sym c.takes.ensures ∙ c.if-not-takes.false)

pub returns-then-not-takes-clause-damaged : goal.returns-then-not-takes-clause-damaged
returns-then-not-takes-clause-damaged c _ rows targets rest holds are fits all =
    not_taken rows targets rest c.args.code.now c.args.target c.args.self.now holds are fits all (sym c.takes.ensures ∙ c.if-not-takes.true)

pub returns-in-Ok-clause-ok : goal.returns-in-Ok-clause-ok
returns-in-Ok-clause-ok c = λ rows targets are.
    subst (AreRowsOf rows _) (sym c.in-Ok.ensures.ok)
    (rows-taken rows targets c.args.code.now c.args.target c.args.self.now are (sym c.takes.ensures ∙ c.if-not-takes.false))
