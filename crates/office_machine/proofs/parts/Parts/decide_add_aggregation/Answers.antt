use Rattle.std.proofs.Common.{◌≡◌, ◌∙◌, ◌∷◌, suc, ◌+◌, length, sym, ap, arith, refl}
use Rattle.std.specs.Option.{option_copied}
use Rattle.office_records.specs.Conditions.{first_of, conditions_of_add_aggregation}
use Rattle.office_records.specs.Tree.{TreeState}
use Rattle.office_rules.specs.Conditions.{refusals_of_add_aggregation}
use Rattle.office_rules.specs.Effects.{after_add_aggregation}
use Rattle.office_rules.specs.State.{ByteMap, with_contents, with_office}
use Rattle.office_rules.specs.Steps.{step_add_aggregation}
use Rattle.office_rules.specs.declared.answer.Answer.TheVariants.{Number}
use Rattle.office_rules.specs.declared.rows.RowWrite.TheVariants as row_write
use Rattle.office_machine.specs.DayWrites.{day_writes}
use Rattle.office_machine.proofs.DecidedTree.{none_of, aggregation_change}
use Rattle.office_machine.proofs.Decisions.{going, refused_step}
use Rattle.office_machine.proofs.OfficeSound.{sound_tree}
use Rattle.office_machine.proofs.parts.Parts.decide_add_aggregation.Goals.{After-dated}
use Rattle.office_machine.proofs.parts.Parts.decide_add_aggregation.Goals as goal

table : (c : After-dated) → c.dated.result ≡ first_of (refusals_of_add_aggregation c.args.self.now c.args.day c.args.ref_text.now c.args.parent (option_copied c.args.class))
table c =
    let checked = c.check_add_aggregation.ensures.first ∙ ap (λ (t : TreeState). first_of (conditions_of_add_aggregation t c.args.ref_text.now c.args.parent (option_copied c.args.class))) (ap (λ o. o.tree) c.self.view_is) in
    c.dated.ensures (conditions_of_add_aggregation c.args.self.now.tree c.args.ref_text.now c.args.parent (option_copied c.args.class)) checked

pub returns-in-Some : goal.returns-in-Some
returns-in-Some c = (
  λ contents.
      let s = c.args.self.now in
      let p = (goal.at.returns-in-Some c).After-dated in
      refused_step (refusals_of_add_aggregation s c.args.day c.args.ref_text.now c.args.parent (option_copied c.args.class)) c.in-Some.refusal (with_contents s contents) (Number (suc (length s.tree.aggregations))) (with_office (with_contents s contents) (after_add_aggregation s c.args.day c.args.ref_text.now c.args.title.now c.args.parent (option_copied c.args.class))) (sym (table p) ∙ c.in-Some.is),
  refl,
)

pub returns : goal.returns
returns c =
    let s = c.args.self.now in
    let tree = ap (λ o. o.tree) c.self.view_is in
    let accepted = sym (table (goal.at.returns c).After-dated) ∙ none_of c.dated.result c.in_default.not-Some in
    let count = c.aggregation_count-number.ensures.count ∙ ap (λ (t : TreeState). length t.aggregations) tree in
    let it = c.in_ok-aggregation.ensures in
    let number : suc (length s.tree.aggregations) ≡ c.aggregation_count-number.result + 1 = omega (arith, count) in
    let next = λ (contents : ByteMap). step_add_aggregation (with_contents s contents) c.args.day c.args.ref_text.now c.args.title.now c.args.parent (option_copied c.args.class) in
    going s next (Number (c.aggregation_count-number.result + 1)) _ c.go.result c.go.ensures (λ change answer writes.
    aggregation_change s c.args.day c.args.ref_text.now c.args.title.now c.args.parent (option_copied c.args.class) change (sound_tree c.args.self.now c.requires) accepted (ap Number number ∙ sym answer)
    (writes ∙ (λ i. row_write.Aggregation (count i + 1) (it i) ∷ day_writes c.args.self.now c.args.day)))
