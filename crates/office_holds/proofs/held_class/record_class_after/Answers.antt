use Rattle.std.proofs.Common.{ap, ◌∙◌}
use Rattle.std.specs.Option.{option_copied}
use Rattle.office_records.specs.Effects.{reclassified}
use Rattle.office_records.specs.Tree.{class_of}
use Rattle.office_records.specs.declared.classified.Classified.TheVariants as classified
use Rattle.office_holds.proofs.Classes.{record_given, there}
use Rattle.office_holds.proofs.held_class.record_class_after.Goals as goal

pub returns-in-Some : goal.returns-in-Some
returns-in-Some c =
    let tree = c.args.tree.now in
    let r = c.args.record_no in
    let head = there tree.records r c.requires in
    ap (λ o. class_of (reclassified tree (classified.Record r) (option_copied o)) r) c.in-Some.is ∙ record_given tree.aggregations tree.records r head.0 c.in-Some.class.now head.1
