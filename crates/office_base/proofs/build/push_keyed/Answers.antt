use Rattle.std.proofs.Common.{◌≡◌, ◌∙◌, refl}
use Rattle.office_base.proofs.Ascending.{at_end}
use Rattle.office_base.proofs.build.push_keyed.Goals as goal

pub returns-in-Ok-clause-ok : goal.returns-in-Ok-clause-ok
returns-in-Ok-clause-ok g c = c.in-Ok.ensures.entries ∙ at_end g.met.K.Ord.total c.args.map.now.entries c.args.key c.args.value (c.if-not-follows.ensures.below refl)
