use Rattle.std.proofs.Common.{◌≡◌, ◌∙◌, ◌∷◌, Some, sym, ap, refl}
use Rattle.office_records.specs.Conditions.{first_of, conditions_of_close_aggregation}
use Rattle.office_records.specs.Lists.{numbered}
use Rattle.office_records.specs.Tree.{TreeState, has_aggregation}
use Rattle.office_records.proofs.Accepting.{none_holds, not_false}
use Rattle.office_records.proofs.Keeping.{as_closed}
use Rattle.office_rules.specs.Conditions.{refusals_of_close_aggregation}
use Rattle.office_rules.specs.Effects.{after_close_aggregation}
use Rattle.office_rules.specs.State.{ByteMap, with_contents, with_office}
use Rattle.office_rules.specs.Steps.{step_close_aggregation}
use Rattle.office_rules.specs.declared.answer.Answer.TheVariants.{Done}
use Rattle.office_rules.specs.declared.rows.RowWrite.TheVariants as row_write
use Rattle.office_machine.specs.DayWrites.{day_writes}
use Rattle.office_machine.proofs.DecidedTree.{none_of, closing_change}
use Rattle.office_machine.proofs.Decisions.{going, refused_step}
use Rattle.office_machine.proofs.OfficeSound.{sound_tree}
use Rattle.office_machine.proofs.parts.Parts.decide_close_aggregation.Goals.{After-dated}
use Rattle.office_machine.proofs.parts.Parts.decide_close_aggregation.Goals as goal

table : (c : After-dated) → c.dated.result ≡ first_of (refusals_of_close_aggregation c.args.self.now c.args.day c.args.aggregation)
table c =
    let checked = c.check_close_aggregation.ensures.first ∙ ap (λ (t : TreeState). first_of (conditions_of_close_aggregation t c.args.aggregation)) (ap (λ o. o.tree) c.self.view_is) in
    c.dated.ensures (conditions_of_close_aggregation c.args.self.now.tree c.args.aggregation) checked

pub returns-in-Some : goal.returns-in-Some
returns-in-Some c = (
  λ contents.
      let s = c.args.self.now in
      let p = (goal.at.returns-in-Some c).After-dated in
      refused_step (refusals_of_close_aggregation s c.args.day c.args.aggregation) c.in-Some.refusal (with_contents s contents) Done (with_office (with_contents s contents) (after_close_aggregation s c.args.day c.args.aggregation)) (sym (table p) ∙ c.in-Some.is),
  refl,
)

pub returns : goal.returns
returns c =
    let s = c.args.self.now in
    let tree = ap (λ o. o.tree) c.self.view_is in
    let accepted = sym (table (goal.at.returns c).After-dated) ∙ none_of c.dated.result c.in_default.not-Some in
    let there : numbered s.tree.aggregations c.args.aggregation ≡ Some c.aggregation.result.now = ap (λ (t : TreeState). numbered t.aggregations c.args.aggregation) (sym tree) ∙ c.aggregation.ensures in
    let next = λ (contents : ByteMap). step_close_aggregation (with_contents s contents) c.args.day c.args.aggregation in
    going s next Done _ c.go.result c.go.ensures (λ change answer writes.
    closing_change s c.args.day c.args.aggregation c.aggregation.result.now change (sound_tree c.args.self.now c.requires) accepted there (sym answer)
    (writes ∙ ap (λ it. row_write.Aggregation c.args.aggregation (as_closed c.args.day it) ∷ day_writes c.args.self.now c.args.day) c.in_ok-closed.ensures))

pub aggregation-requires : goal.aggregation-requires
aggregation-requires c =
    let s = c.args.self.now in
    let accepted = sym (table (goal.at.aggregation-requires c).After-dated) ∙ none_of c.dated.result c.in_default.not-Some in
    let there = not_false (has_aggregation s.tree c.args.aggregation) (none_holds (refusals_of_close_aggregation s c.args.day c.args.aggregation) accepted).1.0 in
    ap (λ (t : TreeState). has_aggregation t c.args.aggregation) (ap (λ o. o.tree) c.self.view_is) ∙ there
