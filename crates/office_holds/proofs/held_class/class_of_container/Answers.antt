use Rattle.std.proofs.Common.{◌∙◌}
use Rattle.office_holds.proofs.Classes.{record_container}
use Rattle.office_holds.proofs.held_class.class_of_container.Goals as goal

pub returns : goal.returns
returns c = record_container c.args.tree.now.aggregations c.args.tree.now.records c.args.record_no c.record-head.result.now c.record-head.ensures ∙ c.aggregation_class_of.ensures
