use Rattle.std.specs.Cmp.{nat_cmp_total}
use Rattle.std.specs.FinMap.{nat_cmp-IsAntisymmetric}
use Rattle.office_holds.proofs.Keys.{key_put}
use Rattle.office_holds.proofs.sets.put_number.Goals as goal

pub returns-clause-ok : goal.returns-clause-ok
returns-clause-ok c = key_put nat_cmp_total nat_cmp-IsAntisymmetric c.args.numbers.now c.insert.new.self c.args.number c.in_ok-insert.ensures.updates
