use Rattle.std.specs.FinMap.{from_entries}
use Rattle.office_records.proofs.Named.{names_hold, classes_pass, aggregations_pass, records_pass}
use Rattle.office_tree.proofs.tree_parts.do_names_exist.Goals as goal

pub returns-then-not-are_classes_named-clause-no : goal.returns-then-not-are_classes_named-clause-no
returns-then-not-are_classes_named-clause-no c _ names =
    let pass = classes_pass (from_entries c.args.schedules.now.entries) c.args.classes.now.entries c.args.aggregations.now c.args.records.now c.are_classes_named.ensures.ordered names in
    absurd (cc (c.are_classes_named.ensures.all.1 pass, c.if-not-are_classes_named.true))

pub returns-then-not-are_aggregations_named-clause-no : goal.returns-then-not-are_aggregations_named-clause-no
returns-then-not-are_aggregations_named-clause-no c _ names =
    let pass = aggregations_pass (from_entries c.args.schedules.now.entries) (from_entries c.args.classes.now.entries) c.args.aggregations.now c.args.records.now names in
    absurd (cc (c.are_aggregations_named.ensures.1 pass, c.if-not-are_aggregations_named.true))

pub returns-clause-yes : goal.returns-clause-yes
returns-clause-yes c reported =
    names_hold (from_entries c.args.schedules.now.entries) c.args.classes.now.entries c.args.aggregations.now c.args.records.now
    (c.are_classes_named.ensures.all.0 c.if-not-are_classes_named.false) (c.are_aggregations_named.ensures.0 c.if-not-are_aggregations_named.false) (c.are_records_named.ensures.0 reported)

pub returns-clause-no : goal.returns-clause-no
returns-clause-no c reported names =
    let pass = records_pass (from_entries c.args.schedules.now.entries) (from_entries c.args.classes.now.entries) c.args.aggregations.now c.args.records.now names in
    absurd (cc (c.are_records_named.ensures.1 pass, reported))
