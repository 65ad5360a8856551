use Rattle.std.proofs.Common.{subst}
use Rattle.std.proofs.lemmas.List.{take_all}
use Rattle.std.proofs.lemmas.List.Elements.{All-more}
use Rattle.std.specs.List.{All}
use Rattle.office_records.specs.Forms.{IsWellFormedAggregation}
use Rattle.office_records.proofs.formed.well_formed_aggregations.Goals as goal

pub loop-it-preserved : goal.loop-it-preserved
loop-it-preserved c =
    All-more IsWellFormedAggregation c.args.aggregations.now c.loop-it.it-index c.it-item.result c.loop-it-test.true c.loop-it.invariant (subst IsWellFormedAggregation c.it-item.is c.well_formed_aggregation.ensures)

pub returns : goal.returns
returns c = subst (All IsWellFormedAggregation) (take_all c.loop-it.it-index c.args.aggregations.now c.loop-it-test.false) c.loop-it.invariant
