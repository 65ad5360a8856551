use Rattle.std.proofs.Common.{ap, sym, ◌∙◌}
use Rattle.std.specs.Option.{option_copied}
use Rattle.office_records.specs.Effects.{reclassified}
use Rattle.office_records.specs.Tree.{aggregation_class_of}
use Rattle.office_records.specs.declared.classified.Classified.TheVariants as classified
use Rattle.office_records.proofs.Places.{numbered_within}
use Rattle.office_holds.proofs.Classes.{aggregation_given, there}
use Rattle.office_holds.proofs.held_class.aggregation_class_after.Goals as goal

pub returns-in-Some : goal.returns-in-Some
returns-in-Some c =
    let tree = c.args.tree.now in
    let a = c.args.aggregation in
    let it = there tree.aggregations a c.requires in
    sym (ap (λ o. aggregation_class_of (reclassified tree (classified.Aggregation a) (option_copied o)) a) c.in-Some.is
    ∙ aggregation_given tree.aggregations a it.0 c.in-Some.class.now (numbered_within tree.aggregations a it.0 it.1).0 it.1)
