use Rattle.std.proofs.Common.{◌∙◌}
use Rattle.std.specs.Cmp.{nat_cmp_total}
use Rattle.office_holds.proofs.Keys.{key_in}
use Rattle.office_holds.proofs.sets.has_number.Goals as goal

pub returns : goal.returns
returns c = c.contains.ensures ∙ key_in nat_cmp_total c.args.numbers.now c.args.number
