use Rattle.std.proofs.Common.{◌≡◌, ◌∙◌, ◌∷◌, Some, sym, ap, refl}
use Rattle.std.specs.FinMap.{get}
use Rattle.office_records.specs.Conditions.{first_of, conditions_of_set_class_schedule}
use Rattle.office_records.specs.Tree.{TreeState}
use Rattle.office_rules.specs.Conditions.{refusals_of_set_class_schedule}
use Rattle.office_rules.specs.Effects.{after_set_class_schedule}
use Rattle.office_rules.specs.State.{ByteMap, with_contents, with_office}
use Rattle.office_rules.specs.Steps.{step_set_class_schedule}
use Rattle.office_rules.specs.declared.answer.Answer.TheVariants.{Done}
use Rattle.office_rules.specs.declared.rows.RowWrite.TheVariants as row_write
use Rattle.office_rules.proofs.Accepted.{dated_accepted}
use Rattle.office_machine.specs.DayWrites.{day_writes}
use Rattle.office_machine.proofs.DecidedTree.{none_of, class_there, class_schedule_change}
use Rattle.office_machine.proofs.Decisions.{going, refused_step}
use Rattle.office_machine.proofs.OfficeSound.{sound_tree}
use Rattle.office_machine.proofs.parts.Parts.decide_set_class_schedule.Goals.{After-dated}
use Rattle.office_machine.proofs.parts.Parts.decide_set_class_schedule.Goals as goal

table : (c : After-dated) → c.dated.result ≡ first_of (refusals_of_set_class_schedule c.args.self.now c.args.day c.args.class.now c.args.schedule.now)
table c =
    let checked = c.check_set_class_schedule.ensures.first ∙ ap (λ (t : TreeState). first_of (conditions_of_set_class_schedule t c.args.class.now c.args.schedule.now)) (ap (λ o. o.tree) c.self.view_is) in
    c.dated.ensures (conditions_of_set_class_schedule c.args.self.now.tree c.args.class.now c.args.schedule.now) checked

pub returns-in-Some : goal.returns-in-Some
returns-in-Some c = (
  λ contents.
      let s = c.args.self.now in
      let p = (goal.at.returns-in-Some c).After-dated in
      refused_step (refusals_of_set_class_schedule s c.args.day c.args.class.now c.args.schedule.now) c.in-Some.refusal (with_contents s contents) Done (with_office (with_contents s contents) (after_set_class_schedule s c.args.day c.args.class.now c.args.schedule.now)) (sym (table p) ∙ c.in-Some.is),
  refl,
)

pub returns : goal.returns
returns c =
    let s = c.args.self.now in
    let tree = ap (λ o. o.tree) c.self.view_is in
    let accepted = sym (table (goal.at.returns c).After-dated) ∙ none_of c.dated.result c.in_default.not-Some in
    let there : get s.tree.classes c.args.class.now ≡ Some c.in-Some-class.it.now = ap (λ (t : TreeState). get t.classes c.args.class.now) (sym tree) ∙ sym c.in-Some-class.ensures in
    let title = c.in_ok-title-in-Some-class.ensures in
    let codes = c.in_ok-code.ensures in
    let next = λ (contents : ByteMap). step_set_class_schedule (with_contents s contents) c.args.day c.args.class.now c.args.schedule.now in
    going s next Done _ c.go.result c.go.ensures (λ change answer writes.
    class_schedule_change s c.args.day c.args.class.now c.args.schedule.now c.in-Some-class.it.now change (sound_tree c.args.self.now c.requires) accepted there (sym answer)
    (writes ∙ (λ i. row_write.Class (codes i).0 (record { title = title i; schedule = (codes i).1 }) ∷ day_writes c.args.self.now c.args.day)))

pub unreachable-requires : goal.unreachable-requires
unreachable-requires c =
    let s = c.args.self.now in
    let accepted = sym (table (goal.at.unreachable-requires c).After-dated) ∙ none_of c.dated.result c.in_default.not-Some in
    class_there s.tree c.args.class.now c.args.schedule.now (dated_accepted s c.args.day (conditions_of_set_class_schedule s.tree c.args.class.now c.args.schedule.now) accepted).1
    (ap (λ (t : TreeState). get t.classes c.args.class.now) (sym (ap (λ o. o.tree) c.self.view_is)) ∙ sym c.in-None.ensures)
