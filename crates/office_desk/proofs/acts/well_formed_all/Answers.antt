use Rattle.std.proofs.Common.{subst}
use Rattle.std.proofs.lemmas.List.{take_all}
use Rattle.office_rules.specs.Forms.{AreWellFormed}
use Rattle.office_desk.proofs.Prefixes.{well_formed_next}
use Rattle.office_desk.proofs.acts.well_formed_all.Goals as goal

pub loop-act-preserved : goal.loop-act-preserved
loop-act-preserved c = well_formed_next c.args.acts.now c.loop-act.act-index c.act-item.result c.loop-act-test.true c.act-item.is c.loop-act.invariant c.formed.ensures

pub returns : goal.returns
returns c = subst AreWellFormed (take_all c.loop-act.act-index c.args.acts.now c.loop-act-test.false) c.loop-act.invariant
