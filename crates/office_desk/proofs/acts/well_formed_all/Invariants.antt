use Rattle.std.proofs.Common.{take}
use Rattle.office_rules.specs.Forms.{AreWellFormed}
use Rattle.office_desk.proofs.acts.well_formed_all.Given as goal

abbrev pub invariant-loop-act : goal.invariant-loop-act
invariant-loop-act l = AreWellFormed (take l.act-index l.acts)
