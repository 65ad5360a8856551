use Rattle.std.proofs.Common.{◌∙◌, sym}
use Rattle.office_records.proofs.Maps.{len_is}
use Rattle.office_tree.proofs.tree_parts.count.Goals as goal

pub returns : goal.returns
returns g c = c.len.ensures.len ∙ sym (len_is c.args.by_code.now.entries c.len.ensures.ordered)
