use Rattle.std.proofs.Common.{◌∙◌, sym}
use Rattle.std.specs.Cmp.{nat_cmp_total}
use Rattle.office_holds.proofs.Keys.{key_count}
use Rattle.office_holds.proofs.sets.count_numbers.Goals as goal

pub returns : goal.returns
returns c = c.len.ensures.len ∙ sym (key_count nat_cmp_total c.args.numbers.now.keys c.len.ensures.ordered)
