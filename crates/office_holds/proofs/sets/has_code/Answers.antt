use Rattle.std.proofs.Common.{◌∙◌}
use Rattle.std.specs.Cmp.Lexicographic.{nat_list_cmp_total}
use Rattle.office_holds.proofs.Keys.{key_in}
use Rattle.office_holds.proofs.sets.has_code.Goals as goal

pub returns : goal.returns
returns c = c.contains.ensures ∙ key_in nat_list_cmp_total c.args.codes.now c.args.code.now
