use Rattle.std.proofs.Common.{◌<◌, ◌≤◌, ◌+◌, ◌++◌, ◌∷◌, [], ◌∙◌, List, ℕ, length, ap, refl, sym, subst, take, arith}
use Rattle.office_tree.specs.ChildLists.{AreLinked, containers_of}
use Rattle.office_records.specs.declared.head.Record.{Record}
use Rattle.office_tree.proofs.Linked.{containers_more, linked_same}
use Rattle.office_tree.proofs.Refreshed.{head_at}
use Rattle.office_tree.proofs.child_lists.link_records.Goals as goal

pub add_entity-requires-clause-low : goal.add_entity-requires-clause-low
add_entity-requires-clause-low c =
    let within = c.requires.within (c.loop-i.i + 1) c.index-records-i.result (head_at c.args.records.now c.args.records.now c.loop-i.i c.index-records-i.result refl c.loop-i-test.true c.index-records-i.is) in
    subst (λ (head : Record). 0 < head.aggregation) c.index-records-i.is within.0

pub add_entity-requires-clause-high : goal.add_entity-requires-clause-high
add_entity-requires-clause-high c =
    let within = c.requires.within (c.loop-i.i + 1) c.index-records-i.result (head_at c.args.records.now c.args.records.now c.loop-i.i c.index-records-i.result refl c.loop-i-test.true c.index-records-i.is) in
    let high : c.index-records-i.result.aggregation ≤ length c.make_entity_room.new.self.last.items = omega (arith, within.1, c.loop-i.invariant.aggregations, ap length c.make_entity_room.ensures.last) in
    subst (λ (head : Record). head.aggregation ≤ length c.make_entity_room.new.self.last.items) c.index-records-i.is high

pub loop-i-preserved : goal.loop-i-preserved
loop-i-preserved c =
    let containers = containers_of (take c.loop-i.i c.args.records.now) in
    let more = containers_more c.args.records.now c.loop-i.i c.index-records-i.result c.loop-i-test.true c.index-records-i.is ∙ ap (λ (head : Record). containers ++ head.aggregation ∷ []) c.index-records-i.is in
    let roomy = linked_same containers c.args.count c.loop-i.child_lists.last.items c.loop-i.child_lists.before.items c.make_entity_room.new.self.last.items c.make_entity_room.new.self.before.items c.make_entity_room.ensures.last c.make_entity_room.ensures.before c.loop-i.invariant in
    subst (λ (those : List ℕ). AreLinked those c.args.count c.add_entity.new.self.last.items c.add_entity.new.self.before.items) (sym more) (c.add_entity.ensures containers c.args.count roomy)
