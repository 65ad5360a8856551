use Rattle.std.proofs.Common.{arith}
use Rattle.std.proofs.lemmas.List.{length-map}
use Rattle.office_tree.specs.ChildLists.{IsLastBelow, containers_of}
use Rattle.office_tree.specs.RecordCaches.{IsRecordCache}
use Rattle.office_records.specs.declared.head.Record.{Record}
use Rattle.office_records.proofs.Places.{numbered_within}
use Rattle.office_records.proofs.Reading.{aggregation_within, record_there}
use Rattle.office_tree.proofs.Refreshed.{done_aggregation, done_before, done_last}
use Rattle.office_tree.proofs.record_caches.RecordCaches.refresh_records_in.Goals as goal
use Rattle.office_tree.proofs.record_caches.RecordCaches.refresh_records_in.Goals.{After-before-at}

pub loop-at-init : goal.loop-at-init
loop-at-init c = done_last (IsRecordCache c.args.directory.now.schedule_numbers c.args.rows.now) c.args.rows.now.records c.args.aggregation c.last-at.result c.args.self.now.rows.items (c.requires.ready.linked.lasts c.args.aggregation c.last-at.result c.last-at.ensures)

pub refresh-requires-clause-there : goal.refresh-requires-clause-there
refresh-requires-clause-there c =
    let within = numbered_within (containers_of c.args.rows.now.records) c.loop-at.at c.args.aggregation (c.loop-at.invariant.there (omega (arith, c.loop-at-test.true))) in
    record_there c.args.rows.now c.loop-at.at (within.0, omega (arith, within.1, length-map c.args.rows.now.records (λ (head : Record). head.aggregation)))

pub before-at-requires-clause-high : goal.before-at-requires-clause-high
before-at-requires-clause-high c =
    let within = numbered_within (containers_of c.args.rows.now.records) c.loop-at.at c.args.aggregation (c.loop-at.invariant.there (omega (arith, c.loop-at-test.true))) in
    omega (arith, within.1, c.requires.ready.linked.entities)

-- the one before
next : (c : After-before-at) → IsLastBelow (containers_of c.args.rows.now.records) c.args.aggregation c.loop-at.at c.before-at.result
next c = c.requires.ready.linked.befores c.loop-at.at c.args.aggregation c.before-at.result (aggregation_within c.args.rows.now c.args.aggregation c.requires.there).0 (c.loop-at.invariant.there (omega (arith, c.loop-at-test.true))) c.before-at.ensures

pub loop-at-smaller : goal.loop-at-smaller
loop-at-smaller c = (next (goal.at.loop-at-smaller c).After-before-at).below

pub loop-at-preserved : goal.loop-at-preserved
loop-at-preserved c =
    done_before (IsRecordCache c.args.directory.now.schedule_numbers c.args.rows.now) c.args.rows.now.records c.args.aggregation c.loop-at.at c.before-at.result c.args.self.now.rows.items c.loop-at.self.rows.items c.refresh.new.self.rows.items c.loop-at.invariant c.refresh.ensures.count c.refresh.ensures.here c.refresh.ensures.others
    (next (goal.at.loop-at-preserved c).After-before-at)

pub returns : goal.returns
returns c = record {
  count = c.loop-at.invariant.count;
  done = done_aggregation (IsRecordCache c.args.directory.now.schedule_numbers c.args.rows.now) c.args.rows.now.records c.args.aggregation c.loop-at.at c.args.self.now.rows.items c.loop-at.self.rows.items c.loop-at.invariant (omega (arith, c.loop-at-test.false));
}
