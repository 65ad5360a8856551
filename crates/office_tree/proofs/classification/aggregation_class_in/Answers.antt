use Rattle.std.proofs.Common.{◌∙◌, arith}
use Rattle.office_records.proofs.Places.{numbered_read}
use Rattle.office_records.proofs.Walk.{walk_here, walk_on, placed_parent, placed_root, placed_in}
use Rattle.office_tree.proofs.classification.aggregation_class_in.Goals as goal

pub returns-in-Some : goal.returns-in-Some
returns-in-Some c =
    let at = c.loop-class.invariant in
    let it = numbered_read c.args.aggregations.now c.loop-class.at c.index-aggregations-at.result at.low at.high c.index-aggregations-at.is in
    at.class ∙ walk_here c.args.aggregations.now c.loop-class.at c.index-aggregations-at.result c.in-Some.class at.low it c.in-Some.is

pub loop-class-smaller : goal.loop-class-smaller
loop-class-smaller c =
    let at = c.loop-class.invariant in
    let it = numbered_read c.args.aggregations.now c.loop-class.at c.index-aggregations-at.result at.low at.high c.index-aggregations-at.is in
    (placed_parent c.loop-class.at c.index-aggregations-at.result c.in-Some-parent.parent c.in-Some-parent.is (placed_in c.args.aggregations.now c.requires.forest c.requires.roots c.loop-class.at c.index-aggregations-at.result it)).1

pub loop-class-preserved : goal.loop-class-preserved
loop-class-preserved c =
    let at = c.loop-class.invariant in
    let it = numbered_read c.args.aggregations.now c.loop-class.at c.index-aggregations-at.result at.low at.high c.index-aggregations-at.is in
    let up = placed_parent c.loop-class.at c.index-aggregations-at.result c.in-Some-parent.parent c.in-Some-parent.is (placed_in c.args.aggregations.now c.requires.forest c.requires.roots c.loop-class.at c.index-aggregations-at.result it) in
    record {
      low = up.0;
      high = omega (arith, up.1, at.high);
      class = at.class ∙ walk_on c.args.aggregations.now (placed_in c.args.aggregations.now c.requires.forest c.requires.roots) c.loop-class.at c.in-Some-parent.parent c.index-aggregations-at.result at.low it c.in_default.is c.in-Some-parent.is;
    }

pub unreachable-requires : goal.unreachable-requires
unreachable-requires c =
    let at = c.loop-class.invariant in
    let it = numbered_read c.args.aggregations.now c.loop-class.at c.index-aggregations-at.result at.low at.high c.index-aggregations-at.is in
    placed_root c.loop-class.at c.index-aggregations-at.result c.in-None.is c.in_default.is (placed_in c.args.aggregations.now c.requires.forest c.requires.roots c.loop-class.at c.index-aggregations-at.result it)
