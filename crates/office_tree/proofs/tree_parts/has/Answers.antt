use Rattle.std.proofs.Common.{◌∙◌, sym}
use Rattle.office_records.proofs.Plan.{contains_is}
use Rattle.office_tree.proofs.tree_parts.has.Goals as goal

pub returns : goal.returns
returns g c = c.contains_key.ensures ∙ sym (contains_is c.args.by_code.now.entries c.args.code.now)
