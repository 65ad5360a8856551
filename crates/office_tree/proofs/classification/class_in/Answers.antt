use Rattle.std.proofs.Common.{◌∙◌}
use Rattle.office_records.proofs.Places.{numbered_read}
use Rattle.office_records.proofs.Walk.{class_own, class_above}
use Rattle.office_tree.proofs.classification.class_in.Goals as goal

pub returns-in-Some : goal.returns-in-Some
returns-in-Some c =
    let head = numbered_read c.args.records.now c.args.record_no c.index-records-record_no.result c.requires.low c.requires.high c.index-records-record_no.is in
    class_own c.args.aggregations.now c.args.records.now c.args.record_no c.index-records-record_no.result c.in-Some.class head c.in-Some.is

pub returns-in-None : goal.returns-in-None
returns-in-None c =
    let head = numbered_read c.args.records.now c.args.record_no c.index-records-record_no.result c.requires.low c.requires.high c.index-records-record_no.is in
    class_above c.args.aggregations.now c.args.records.now c.args.record_no c.index-records-record_no.result head c.in-None.is ∙ c.aggregation_class_in.ensures
