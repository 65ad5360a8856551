use Rattle.std.proofs.Common.{◌∙◌, sym}
use Rattle.office_records.proofs.Plan.{get_is}
use Rattle.office_tree.proofs.ref_index.number_of.Goals as goal

pub returns : goal.returns
returns c = c.copied.ensures ∙ c.get.ensures.value ∙ sym (get_is c.args.index.now.entries c.args.ref_text.now)
