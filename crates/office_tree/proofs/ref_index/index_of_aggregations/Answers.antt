use Rattle.std.proofs.Common.{[], subst, sym, take_all, arith}
use Rattle.office_tree.specs.Indexes.{Indexes, aggregation_refs}
use Rattle.office_records.specs.declared.aggregation.Aggregation.{Aggregation}
use Rattle.office_tree.proofs.MadeIndexes.{if_made, made, made_more}
use Rattle.office_tree.proofs.RefIndexes.{indexes_none}
use Rattle.office_tree.proofs.ref_index.index_of_aggregations.Goals as goal

pub loop-i-init : goal.loop-i-init
loop-i-init c = subst (λ pairs. Indexes (made pairs) []) (sym c.in_ok-refs.ensures.items) indexes_none

pub loop-i-preserved : goal.loop-i-preserved
loop-i-preserved c =
    made_more (λ (it : Aggregation). it.ref_text) c.loop-i.refs.items c.push.new.self.items c.args.aggregations.now c.loop-i.i c.index-aggregations-i.result c.in_ok-copy.field-0
    c.in_ok-push.ensures.items c.in_ok-copy.ensures c.loop-i-test.true c.index-aggregations-i.is c.loop-i.invariant

pub returns : goal.returns
returns c =
    if_made c.index_of.result c.loop-i.refs.items (aggregation_refs c.args.aggregations.now) c.index_of.ensures
    (subst (λ its. Indexes (made c.loop-i.refs.items) (aggregation_refs its)) (take_all c.loop-i.i c.args.aggregations.now (omega arith)) c.loop-i.invariant)
