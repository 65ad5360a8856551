use Rattle.std.proofs.Common.{◌≡◌, ◌<◌, ◌≤◌, ◌+◌, ◌++◌, ◌∷◌, [], ◌∙◌, List, ℕ, length, ap, sym, subst, take, arith}
use Rattle.std.specs.Prelude.{IfSome}
use Rattle.std.specs.Option.{unwrap_or}
use Rattle.office_tree.specs.ChildLists.{AreLinked, parents_of}
use Rattle.office_records.specs.declared.aggregation.Aggregation.{Aggregation}
use Rattle.office_tree.proofs.Linked.{few_taken, linked_same, parents_more}
use Rattle.office_tree.proofs.Refreshed.{read_at}
use Rattle.office_tree.proofs.child_lists.link_aggregations.Goals as goal

pub add_child-requires-clause-few : goal.add_child-requires-clause-few
add_child-requires-clause-few c =
    omega (arith, ap length c.make_entity_room.ensures.before, c.loop-i.invariant.entities, few_taken c.args.aggregations.now c.loop-i.i c.loop-i-test.true c.requires.few)

pub add_child-requires-clause-within : goal.add_child-requires-clause-within
add_child-requires-clause-within c =
    let it = read_at c.args.aggregations.now c.loop-i.i c.index-aggregations-i.result c.loop-i-test.true c.index-aggregations-i.is in
    let within = c.requires.within (c.loop-i.i + 1) c.index-aggregations-i.result it in
    let many : length c.args.aggregations.now ≡ length c.make_entity_room.new.self.last.items = sym c.loop-i.invariant.aggregations ∙ sym (ap length c.make_entity_room.ensures.last) in
    subst (λ (it : Aggregation). IfSome it.parent (λ p. (0 < p) × (p ≤ length c.make_entity_room.new.self.last.items))) c.index-aggregations-i.is (subst (λ (n : ℕ). IfSome c.index-aggregations-i.result.parent (λ p. (0 < p) × (p ≤ n))) many within)

pub loop-i-preserved : goal.loop-i-preserved
loop-i-preserved c =
    let containers = parents_of (take c.loop-i.i c.args.aggregations.now) in
    let count = length c.args.aggregations.now in
    let more = parents_more c.args.aggregations.now c.loop-i.i c.index-aggregations-i.result c.loop-i-test.true c.index-aggregations-i.is ∙ ap (λ (it : Aggregation). containers ++ unwrap_or it.parent 0 ∷ []) c.index-aggregations-i.is in
    let roomy = linked_same containers count c.loop-i.child_lists.last.items c.loop-i.child_lists.before.items c.make_entity_room.new.self.last.items c.make_entity_room.new.self.before.items c.make_entity_room.ensures.last c.make_entity_room.ensures.before c.loop-i.invariant in
    subst (λ (those : List ℕ). AreLinked those count c.add_child.new.self.last.items c.add_child.new.self.before.items) (sym more) (c.add_child.ensures containers count roomy)
