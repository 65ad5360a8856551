use Rattle.std.proofs.Common.{subst}
use Rattle.std.proofs.lemmas.List.{take_all}
use Rattle.std.proofs.lemmas.List.Elements.{All-more}
use Rattle.std.specs.List.{All}
use Rattle.office_records.specs.Forms.{IsWellFormedRecord}
use Rattle.office_records.proofs.formed.well_formed_records.Goals as goal

pub loop-head-preserved : goal.loop-head-preserved
loop-head-preserved c =
    All-more IsWellFormedRecord c.args.records.now c.loop-head.head-index c.head-item.result c.loop-head-test.true c.loop-head.invariant (subst IsWellFormedRecord c.head-item.is c.well_formed_record.ensures)

pub returns : goal.returns
returns c = subst (All IsWellFormedRecord) (take_all c.loop-head.head-index c.args.records.now c.loop-head-test.false) c.loop-head.invariant
