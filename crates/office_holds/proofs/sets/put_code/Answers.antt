use Rattle.std.specs.Cmp.Lexicographic.{nat_list_cmp_total}
use Rattle.std.specs.FinMap.{slice_cmp-IsAntisymmetric, nat_cmp-IsAntisymmetric}
use Rattle.office_holds.proofs.Keys.{key_put}
use Rattle.office_holds.proofs.sets.put_code.Goals as goal

pub returns-clause-ok : goal.returns-clause-ok
returns-clause-ok c = key_put nat_list_cmp_total (slice_cmp-IsAntisymmetric nat_cmp-IsAntisymmetric) c.args.codes.now c.insert.new.self c.args.code c.in_ok-insert.ensures.updates
