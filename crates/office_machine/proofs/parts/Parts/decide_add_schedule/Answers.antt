use Rattle.std.proofs.Common.{◌≡◌, ◌∙◌, ◌∷◌, sym, ap, refl}
use Rattle.office_records.specs.Conditions.{first_of, conditions_of_add_schedule}
use Rattle.office_records.specs.Tree.{TreeState}
use Rattle.office_rules.specs.Conditions.{refusals_of_add_schedule}
use Rattle.office_rules.specs.Effects.{after_add_schedule}
use Rattle.office_rules.specs.State.{ByteMap, with_contents, with_office}
use Rattle.office_rules.specs.Steps.{step_add_schedule}
use Rattle.office_rules.specs.declared.answer.Answer.TheVariants.{Done}
use Rattle.office_rules.specs.declared.rows.RowWrite.TheVariants as row_write
use Rattle.office_machine.specs.DayWrites.{day_writes}
use Rattle.office_machine.proofs.DecidedTree.{none_of, schedule_change}
use Rattle.office_machine.proofs.Decisions.{going, refused_step}
use Rattle.office_machine.proofs.OfficeSound.{sound_tree}
use Rattle.office_machine.proofs.parts.Parts.decide_add_schedule.Goals.{After-dated}
use Rattle.office_machine.proofs.parts.Parts.decide_add_schedule.Goals as goal

table : (c : After-dated) → c.dated.result ≡ first_of (refusals_of_add_schedule c.args.self.now c.args.day c.args.code.now)
table c =
    let s = c.args.self.now in
    let checked = c.check_add_schedule.ensures.first ∙ ap (λ (t : TreeState). first_of (conditions_of_add_schedule t c.args.code.now)) (ap (λ o. o.tree) c.self.view_is) in
    c.dated.ensures (conditions_of_add_schedule s.tree c.args.code.now) checked

pub returns-in-Some : goal.returns-in-Some
returns-in-Some c = (
  λ contents.
      let s = c.args.self.now in
      refused_step (refusals_of_add_schedule s c.args.day c.args.code.now) c.in-Some.refusal (with_contents s contents) Done (with_office (with_contents s contents) (after_add_schedule s c.args.day c.args.code.now c.args.schedule)) (sym (table (goal.at.returns-in-Some c).After-dated) ∙ c.in-Some.is),
  refl,
)

pub returns : goal.returns
returns c =
    let accepted = sym (table (goal.at.returns c).After-dated) ∙ none_of c.dated.result c.in_default.not-Some in
    let next = λ (contents : ByteMap). step_add_schedule (with_contents c.args.self.now contents) c.args.day c.args.code.now c.args.schedule in
    let row = ap (λ code. row_write.Schedule code c.args.schedule ∷ day_writes c.args.self.now c.args.day) c.in_ok-code.ensures in
    going c.args.self.now next Done _ c.go.result c.go.ensures (λ change answer writes.
    schedule_change c.args.self.now c.args.day c.args.code.now c.args.schedule change (sound_tree c.args.self.now c.requires) accepted (sym answer) (writes ∙ row))
