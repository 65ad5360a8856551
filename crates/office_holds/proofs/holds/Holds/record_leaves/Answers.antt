use Rattle.std.proofs.Common.{ap, sym, ◌∙◌, not, ◌&&◌}
use Rattle.std.specs.Option.{option_copied}
use Rattle.std.specs.Str.{bytes_eq}
use Rattle.office_records.specs.Effects.{reclassified}
use Rattle.office_records.specs.Lists.{is_some_and}
use Rattle.office_records.specs.declared.classified.Classified.TheVariants as classified
use Rattle.office_rules.specs.HoldConditions.{classified_class}
use Rattle.office_rules.specs.Holds.{is_held_class}
use Rattle.office_holds.proofs.Classes.{no_record}
use Rattle.office_holds.proofs.holds.Holds.record_leaves.Goals as goal

pub returns-then-not-has_record : goal.returns-then-not-has_record
returns-then-not-has_record c =
    let what = classified.Record c.args.record_no in
    let after = classified_class (reclassified c.args.tree.now what (option_copied c.args.class)) what in
    sym (ap (λ o. is_some_and o (λ old. not (is_some_and after (bytes_eq old)) && is_held_class c.args.self.now old)) (no_record c.args.tree.now c.args.record_no (sym c.has_record.ensures ∙ c.if-not-has_record.true)))
