use Rattle.std.proofs.Common.{◌≡◌, ◌∙◌, ◌∷◌, sym, ap, refl}
use Rattle.office_records.specs.Conditions.{first_of}
use Rattle.office_rules.specs.HoldConditions.{conditions_of_hold_off}
use Rattle.office_rules.specs.Holds.{HoldMap}
use Rattle.office_rules.specs.Conditions.{refusals_of_hold_off}
use Rattle.office_rules.specs.Effects.{after_hold_off}
use Rattle.office_rules.specs.State.{ByteMap, with_contents, with_office}
use Rattle.office_rules.specs.Steps.{step_hold_off}
use Rattle.office_rules.specs.declared.answer.Answer.TheVariants.{Done}
use Rattle.office_rules.specs.declared.rows.RowWrite.TheVariants as row_write
use Rattle.office_machine.specs.DayWrites.{day_writes}
use Rattle.office_machine.proofs.DecidedHolds.{uncovering_change}
use Rattle.office_machine.proofs.Decisions.{going, refused_step}
use Rattle.office_machine.proofs.parts.Parts.decide_hold_off.Goals.{After-dated}
use Rattle.office_machine.proofs.parts.Parts.decide_hold_off.Goals as goal

table : (c : After-dated) → c.dated.result ≡ first_of (refusals_of_hold_off c.args.self.now c.args.day c.args.code.now c.args.target.now)
table c =
    let s = c.args.self.now in
    let checked = c.check_uncover.ensures.first ∙ ap (λ (holds : HoldMap). first_of (conditions_of_hold_off holds c.args.code.now c.args.target.now)) (ap (λ o. o.holds) c.self.view_is) in
    c.dated.ensures (conditions_of_hold_off s.holds c.args.code.now c.args.target.now) checked

pub returns-in-Some : goal.returns-in-Some
returns-in-Some c = (
  λ contents.
      let s = c.args.self.now in
      refused_step (refusals_of_hold_off s c.args.day c.args.code.now c.args.target.now) c.in-Some.refusal (with_contents s contents) Done (with_office (with_contents s contents) (after_hold_off s c.args.day c.args.code.now c.args.target.now)) (sym (table (goal.at.returns-in-Some c).After-dated) ∙ c.in-Some.is),
  refl,
)

pub returns : goal.returns
returns c =
    let s = c.args.self.now in
    let accepted = sym (table (goal.at.returns c).After-dated) ∙ c.in_default.is in
    let code = c.in_ok-hold.ensures in
    let target = c.in_ok-target.ensures in
    let next = λ (contents : ByteMap). step_hold_off (with_contents s contents) c.args.day c.args.code.now c.args.target.now in
    going s next Done _ c.go.result c.go.ensures (λ change answer writes.
    uncovering_change s c.args.day c.args.code.now c.args.target.now change accepted (sym answer) (writes ∙ (λ i. row_write.RemoveTarget (code i) (target i) ∷ day_writes c.args.self.now c.args.day)))
