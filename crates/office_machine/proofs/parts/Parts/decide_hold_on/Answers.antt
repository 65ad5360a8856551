use Rattle.std.proofs.Common.{◌≡◌, ◌∙◌, ◌∷◌, sym, ap, refl}
use Rattle.office_records.specs.Conditions.{first_of}
use Rattle.office_rules.specs.HoldConditions.{conditions_of_hold_on}
use Rattle.office_rules.specs.Conditions.{conditions_of_covering, conditions_of_target, refusals_of_hold_on}
use Rattle.office_rules.specs.Effects.{after_hold_on}
use Rattle.office_machine.specs.MinRefusal.{min_refusal}
use Rattle.office_rules.specs.State.{ByteMap, Office, with_contents, with_office}
use Rattle.office_rules.specs.Steps.{step_hold_on}
use Rattle.office_rules.specs.declared.answer.Answer.TheVariants.{Done}
use Rattle.office_rules.specs.declared.rows.RowWrite.TheVariants as row_write
use Rattle.office_machine.specs.DayWrites.{day_writes}
use Rattle.office_machine.proofs.DecidedHolds.{covering_change}
use Rattle.office_machine.proofs.Decisions.{going, refused_step}
use Rattle.office_machine.proofs.MinRefusals.{min_refusal_of_covering}
use Rattle.office_machine.proofs.OfficeSound.{few_holds}
use Rattle.office_machine.proofs.parts.Parts.decide_hold_on.Goals.{After-dated}
use Rattle.office_machine.proofs.parts.Parts.decide_hold_on.Goals as goal

table : (c : After-dated) → c.dated.result ≡ first_of (refusals_of_hold_on c.args.self.now c.args.day c.args.code.now c.args.target.now)
table c =
    let s = c.args.self.now in
    let code = c.args.code.now in
    let target = c.args.target.now in
    let apart = c.min_refusal.ensures ∙ (λ i. min_refusal (c.check_cover-by_holds.ensures.first i) (c.check_target-by_tree.ensures i)) in
    let by_parts = ap (λ (o : Office). min_refusal (first_of (conditions_of_hold_on o.holds code target)) (first_of (conditions_of_target o.tree target))) c.self.view_is in
    c.dated.ensures (conditions_of_covering s code target) (apart ∙ by_parts ∙ min_refusal_of_covering s code target)

pub returns-in-Some : goal.returns-in-Some
returns-in-Some c = (
  λ contents.
      let s = c.args.self.now in
      refused_step (refusals_of_hold_on s c.args.day c.args.code.now c.args.target.now) c.in-Some.refusal (with_contents s contents) Done (with_office (with_contents s contents) (after_hold_on s c.args.day c.args.code.now c.args.target.now)) (sym (table (goal.at.returns-in-Some c).After-dated) ∙ c.in-Some.is),
  refl,
)

pub returns : goal.returns
returns c =
    let s = c.args.self.now in
    let accepted = sym (table (goal.at.returns c).After-dated) ∙ c.in_default.is in
    let code = c.in_ok-hold.ensures in
    let target = c.in_ok-target.ensures in
    let next = λ (contents : ByteMap). step_hold_on (with_contents s contents) c.args.day c.args.code.now c.args.target.now in
    going s next Done _ c.go.result c.go.ensures (λ change answer writes.
    covering_change s c.args.day c.args.code.now c.args.target.now change (few_holds c.args.self.now c.requires) accepted (sym answer) (writes ∙ (λ i. row_write.Target (code i) (target i) ∷ day_writes c.args.self.now c.args.day)))
