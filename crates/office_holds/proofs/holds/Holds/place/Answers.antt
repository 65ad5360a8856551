use Rattle.std.proofs.Common.{None, sym, subst}
use Rattle.office_rules.specs.HoldForms.{FitsHoldLimits}
use Rattle.office_rules.proofs.HoldSoundness.{FitsHoldLimits-placed_hold, StaysLifted-free, placed_by_put}
use Rattle.office_holds.proofs.holds.Holds.place.Goals as goal

pub put-requires-clause-fits : goal.put-requires-clause-fits
put-requires-clause-fits c =
    subst FitsHoldLimits (sym (placed_by_put c.args.self.now c.args.day c.args.code c.args.reason c.args.by c.requires))
    (FitsHoldLimits-placed_hold c.args.self.now c.sound.ensures c.args.day c.args.code c.args.reason c.args.by c.requires)

pub put-requires-clause-stays_lifted : goal.put-requires-clause-stays_lifted
put-requires-clause-stays_lifted c = StaysLifted-free c.args.self.now c.args.code (record { reason = c.args.reason; placed = c.args.day; placed_by = c.args.by; lifted = None }) c.requires
