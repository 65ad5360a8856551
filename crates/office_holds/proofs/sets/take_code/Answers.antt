use Rattle.std.specs.Cmp.Lexicographic.{nat_list_cmp_total}
use Rattle.std.specs.FinMap.{slice_cmp-IsAntisymmetric, nat_cmp-IsAntisymmetric}
use Rattle.office_holds.proofs.Keys.{key_taken}
use Rattle.office_holds.proofs.sets.take_code.Goals as goal

pub returns : goal.returns
returns c = key_taken nat_list_cmp_total (slice_cmp-IsAntisymmetric nat_cmp-IsAntisymmetric) c.args.codes.now c.remove.new.self c.args.code.now c.remove.ensures.updates
