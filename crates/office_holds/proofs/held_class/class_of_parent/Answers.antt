use Rattle.std.proofs.Common.{sym, ◌∙◌}
use Rattle.office_records.proofs.Places.{numbered_within}
use Rattle.office_records.proofs.Walk.{placed_in}
use Rattle.office_holds.proofs.Classes.{aggregation_container, aggregation_root}
use Rattle.office_holds.proofs.held_class.class_of_parent.Goals as goal

pub returns-in-Some : goal.returns-in-Some
returns-in-Some c =
    let xs = c.args.tree.now.aggregations in
    let low = (numbered_within xs c.args.aggregation c.aggregation.result.now c.aggregation.ensures).0 in
    sym c.aggregation_class_of.ensures
    ∙ sym (aggregation_container xs c.args.aggregation c.in-Some.parent c.aggregation.result.now (placed_in xs c.sound.ensures.forest c.sound.ensures.names.root_classes) low c.aggregation.ensures c.in-Some.is)

pub returns-in-None : goal.returns-in-None
returns-in-None c =
    let xs = c.args.tree.now.aggregations in
    let low = (numbered_within xs c.args.aggregation c.aggregation.result.now c.aggregation.ensures).0 in
    sym (aggregation_root xs c.args.aggregation c.aggregation.result.now low c.aggregation.ensures c.in-None.is)
