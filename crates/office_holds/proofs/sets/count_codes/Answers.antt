use Rattle.std.proofs.Common.{◌∙◌, sym}
use Rattle.std.specs.Cmp.Lexicographic.{nat_list_cmp_total}
use Rattle.office_holds.proofs.Keys.{key_count}
use Rattle.office_holds.proofs.sets.count_codes.Goals as goal

pub returns : goal.returns
returns c = c.len.ensures.len ∙ sym (key_count nat_list_cmp_total c.args.codes.now.keys c.len.ensures.ordered)
