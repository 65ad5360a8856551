use Rattle.std.specs.Cmp.{nat_cmp_total}
use Rattle.std.specs.FinMap.{nat_cmp-IsAntisymmetric}
use Rattle.office_holds.proofs.Keys.{key_taken}
use Rattle.office_holds.proofs.sets.take_number.Goals as goal

pub returns : goal.returns
returns c = key_taken nat_cmp_total nat_cmp-IsAntisymmetric c.args.numbers.now c.remove.new.self c.args.number c.remove.ensures.updates
