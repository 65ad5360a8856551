use Rattle.std.proofs.Common.{◌∙◌, refl, subst, arith}
use Rattle.std.proofs.lemmas.List.{length-map}
use Rattle.std.specs.FinMap.{from_entries}
use Rattle.office_tree.specs.ClassIndex.{IsOfClass, NumberMap}
use Rattle.office_tree.specs.ChildLists.{IsLastBelow, containers_of}
use Rattle.office_records.specs.Tree.{code_cmp}
use Rattle.office_records.specs.declared.head.Record.{Record}
use Rattle.office_records.proofs.Places.{numbered_within}
use Rattle.office_records.proofs.Reading.{aggregation_within, record_there}
use Rattle.office_tree.proofs.Refreshed.{done_aggregation, done_before, done_last}
use Rattle.office_tree.proofs.class_index.ClassIndex.reindex_records_in.Goals.{After-before-at}
use Rattle.office_tree.proofs.class_index.ClassIndex.reindex_records_in.Goals as goal

pub loop-at-init : goal.loop-at-init
loop-at-init c = record {
  keeps = record { same = refl; lists = refl };
  done = done_last (IsOfClass (from_entries {R = code_cmp} c.args.self.now.numbers.entries) c.args.rows.now.aggregations c.args.rows.now.records) c.args.rows.now.records c.args.aggregation c.last-at.result c.args.self.now.class_lists.class.items (c.requires.ready.linked.lasts c.args.aggregation c.last-at.result c.last-at.ensures);
}

pub reindex-requires-clause-there : goal.reindex-requires-clause-there
reindex-requires-clause-there c =
    let within = numbered_within (containers_of c.args.rows.now.records) c.loop-at.at c.args.aggregation (c.loop-at.invariant.done.there (omega (arith, c.loop-at-test.true))) in
    record_there c.args.rows.now c.loop-at.at (within.0, omega (arith, within.1, length-map c.args.rows.now.records (λ (head : Record). head.aggregation)))

pub reindex-requires-clause-on_list : goal.reindex-requires-clause-on_list
reindex-requires-clause-on_list c =
    let within = numbered_within (containers_of c.args.rows.now.records) c.loop-at.at c.args.aggregation (c.loop-at.invariant.done.there (omega (arith, c.loop-at-test.true))) in
    omega (arith, within.1, length-map c.args.rows.now.records (λ (head : Record). head.aggregation), c.requires.places.count, c.loop-at.invariant.done.count)

pub before-at-requires-clause-high : goal.before-at-requires-clause-high
before-at-requires-clause-high c =
    let within = numbered_within (containers_of c.args.rows.now.records) c.loop-at.at c.args.aggregation (c.loop-at.invariant.done.there (omega (arith, c.loop-at-test.true))) in
    omega (arith, within.1, c.requires.ready.linked.entities)

-- the one before
next : (c : After-before-at) → IsLastBelow (containers_of c.args.rows.now.records) c.args.aggregation c.loop-at.at c.before-at.result
next c = c.requires.ready.linked.befores c.loop-at.at c.args.aggregation c.before-at.result (aggregation_within c.args.rows.now c.args.aggregation c.requires.there).0 (c.loop-at.invariant.done.there (omega (arith, c.loop-at-test.true))) c.before-at.ensures

pub loop-at-smaller : goal.loop-at-smaller
loop-at-smaller c = (next (goal.at.loop-at-smaller c).After-before-at).below

pub loop-at-preserved : goal.loop-at-preserved
loop-at-preserved c =
    let same = c.loop-at.invariant.keeps.same in
    record {
      keeps = record { same = c.reindex.ensures.keeps.same ∙ same; lists = c.reindex.ensures.keeps.lists ∙ c.loop-at.invariant.keeps.lists };
      done = done_before (IsOfClass (from_entries {R = code_cmp} c.args.self.now.numbers.entries) c.args.rows.now.aggregations c.args.rows.now.records) c.args.rows.now.records c.args.aggregation c.loop-at.at c.before-at.result c.args.self.now.class_lists.class.items c.loop-at.self.class_lists.class.items c.reindex.new.self.class_lists.class.items
          c.loop-at.invariant.done c.reindex.ensures.listed.count
          (λ k e. subst (λ (numbers : NumberMap). IsOfClass numbers c.args.rows.now.aggregations c.args.rows.now.records c.loop-at.at k) (λ i. from_entries {R = code_cmp} (same i).entries) (c.reindex.ensures.listed.here k e))
          c.reindex.ensures.listed.others (next (goal.at.loop-at-preserved c).After-before-at);
    }

pub returns-clause-listed : goal.returns-clause-listed
returns-clause-listed c = record {
  count = c.loop-at.invariant.done.count;
  done = done_aggregation (IsOfClass (from_entries {R = code_cmp} c.args.self.now.numbers.entries) c.args.rows.now.aggregations c.args.rows.now.records) c.args.rows.now.records c.args.aggregation c.loop-at.at c.args.self.now.class_lists.class.items c.loop-at.self.class_lists.class.items c.loop-at.invariant.done (omega (arith, c.loop-at-test.false));
}
