use Rattle.std.proofs.Common.{◌≡◌, ◌∙◌, None, sym, ap, subst, refl}
use Rattle.std.specs.Option.{option_copied}
use Rattle.office_records.specs.Conditions.{conditions_of_reclassify, first_of}
use Rattle.office_records.specs.declared.classified.Classified.{Classified}
use Rattle.office_rules.specs.HoldConditions.{conditions_of_leaving_class}
use Rattle.office_rules.specs.Conditions.{conditions_of_reclassifying, refusals_of_reclassify}
use Rattle.office_rules.specs.Effects.{after_reclassify}
use Rattle.office_machine.specs.MinRefusal.{min_refusal}
use Rattle.office_rules.specs.State.{Office, with_contents, with_office}
use Rattle.office_rules.specs.declared.answer.Answer.TheVariants.{Done}
use Rattle.office_machine.proofs.Decisions.{refused_step}
use Rattle.office_machine.proofs.MinRefusals.{min_refusal_of_reclassifying}
use Rattle.office_machine.proofs.parts.Parts.decide_reclassify.Goals.{After-dated}
use Rattle.office_machine.proofs.parts.Parts.decide_reclassify.Goals as goal

table : (c : After-dated) → c.dated.result ≡ first_of (refusals_of_reclassify c.args.self.now c.args.day c.args.target (option_copied c.args.class))
table c =
    let s = c.args.self.now in
    let class = option_copied c.args.class in
    let apart = c.min_refusal.ensures ∙ (λ i. min_refusal (c.check_reclassify-by_tree.ensures.first i) (c.check_reclassify-by_holds.ensures.first i)) in
    let by_parts = ap (λ (o : Office). min_refusal (first_of (conditions_of_reclassify o.tree c.args.target class)) (first_of (conditions_of_leaving_class o.holds o.tree c.args.target class))) c.self.view_is in
    c.dated.ensures (conditions_of_reclassifying s c.args.target class) (apart ∙ by_parts ∙ min_refusal_of_reclassifying s c.args.target class)

pub returns-in-Some : goal.returns-in-Some
returns-in-Some c = (
  λ contents.
      let s = c.args.self.now in
      let class = option_copied c.args.class in
      refused_step (refusals_of_reclassify s c.args.day c.args.target class) c.in-Some.refusal (with_contents s contents) Done (with_office (with_contents s contents) (after_reclassify s c.args.day c.args.target class)) (sym (table (goal.at.returns-in-Some c).After-dated) ∙ c.in-Some.is),
  refl,
)

pub decide_class_of_aggregation-requires-clause-accepted : goal.decide_class_of_aggregation-requires-clause-accepted
decide_class_of_aggregation-requires-clause-accepted c =
    let accepted = sym (table (goal.at.decide_class_of_aggregation-requires-clause-accepted c).After-dated) ∙ c.in_default.is in
    subst (λ (what : Classified). first_of (refusals_of_reclassify c.args.self.now c.args.day what (option_copied c.args.class)) ≡ None) c.in-Aggregation.is accepted

pub decide_class_of_record-requires-clause-accepted : goal.decide_class_of_record-requires-clause-accepted
decide_class_of_record-requires-clause-accepted c =
    let accepted = sym (table (goal.at.decide_class_of_record-requires-clause-accepted c).After-dated) ∙ c.in_default.is in
    subst (λ (what : Classified). first_of (refusals_of_reclassify c.args.self.now c.args.day what (option_copied c.args.class)) ≡ None) c.in-Record.is accepted
