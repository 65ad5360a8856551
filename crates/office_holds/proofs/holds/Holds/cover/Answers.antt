use Rattle.office_rules.proofs.HoldSoundness.{FitsHoldLimits-held_on}
use Rattle.office_holds.proofs.holds.Holds.cover.Goals as goal

pub put_target-requires : goal.put_target-requires
put_target-requires c = FitsHoldLimits-held_on c.args.self.now c.sound.ensures c.args.code.now c.args.target c.requires
