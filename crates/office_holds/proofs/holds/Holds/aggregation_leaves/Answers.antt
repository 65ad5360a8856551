use Rattle.std.proofs.Common.{ap, sym, ◌∙◌, not, ◌&&◌}
use Rattle.std.specs.Option.{option_copied}
use Rattle.std.specs.Str.{bytes_eq}
use Rattle.office_records.specs.Effects.{reclassified}
use Rattle.office_records.specs.Lists.{is_some_and}
use Rattle.office_records.specs.declared.classified.Classified.TheVariants as classified
use Rattle.office_rules.specs.HoldConditions.{classified_class}
use Rattle.office_rules.specs.Holds.{is_held_class}
use Rattle.office_holds.proofs.Classes.{no_aggregation}
use Rattle.office_holds.proofs.holds.Holds.aggregation_leaves.Goals as goal

pub returns-then-not-has_aggregation : goal.returns-then-not-has_aggregation
returns-then-not-has_aggregation c =
    let what = classified.Aggregation c.args.aggregation in
    let after = classified_class (reclassified c.args.tree.now what (option_copied c.args.class)) what in
    sym (ap (λ o. is_some_and o (λ old. not (is_some_and after (bytes_eq old)) && is_held_class c.args.self.now old)) (no_aggregation c.args.tree.now c.args.aggregation (sym c.has_aggregation.ensures ∙ c.if-not-has_aggregation.true)))
