use Rattle.std.proofs.Common.{◌≡◌, ◌∙◌, ◌∷◌, sym, ap, refl}
use Rattle.office_records.specs.Conditions.{first_of, conditions_of_add_class}
use Rattle.office_records.specs.Tree.{TreeState}
use Rattle.office_records.specs.declared.class.Class.{Class}
use Rattle.office_rules.specs.Conditions.{refusals_of_add_class}
use Rattle.office_rules.specs.Effects.{after_add_class}
use Rattle.office_rules.specs.State.{ByteMap, with_contents, with_office}
use Rattle.office_rules.specs.Steps.{step_add_class}
use Rattle.office_rules.specs.declared.answer.Answer.TheVariants.{Done}
use Rattle.office_rules.specs.declared.rows.RowWrite.TheVariants as row_write
use Rattle.office_machine.specs.DayWrites.{day_writes}
use Rattle.office_machine.proofs.DecidedTree.{none_of, class_change}
use Rattle.office_machine.proofs.Decisions.{going, refused_step}
use Rattle.office_machine.proofs.OfficeSound.{sound_tree}
use Rattle.office_machine.proofs.parts.Parts.decide_add_class.Goals.{After-dated}
use Rattle.office_machine.proofs.parts.Parts.decide_add_class.Goals as goal

-- the class that is asked for
abbrev asked : After-dated → Class
asked c = record { title = c.args.title.now; schedule = c.args.schedule.now }

table : (c : After-dated) → c.dated.result ≡ first_of (refusals_of_add_class c.args.self.now c.args.day c.args.code.now (asked c))
table c =
    let checked = c.check_add_class.ensures.first ∙ ap (λ (t : TreeState). first_of (conditions_of_add_class t c.args.code.now c.args.schedule.now)) (ap (λ o. o.tree) c.self.view_is) in
    c.dated.ensures (conditions_of_add_class c.args.self.now.tree c.args.code.now c.args.schedule.now) checked

pub returns-in-Some : goal.returns-in-Some
returns-in-Some c = (
  λ contents.
      let s = c.args.self.now in
      let p = (goal.at.returns-in-Some c).After-dated in
      refused_step (refusals_of_add_class s c.args.day c.args.code.now (asked p)) c.in-Some.refusal (with_contents s contents) Done (with_office (with_contents s contents) (after_add_class s c.args.day c.args.code.now (asked p))) (sym (table p) ∙ c.in-Some.is),
  refl,
)

pub returns : goal.returns
returns c =
    let p = (goal.at.returns c).After-dated in
    let accepted = sym (table p) ∙ none_of c.dated.result c.in_default.not-Some in
    let title = c.in_ok-title.ensures in
    let codes = c.in_ok-code.ensures in
    let next = λ (contents : ByteMap). step_add_class (with_contents c.args.self.now contents) c.args.day c.args.code.now (asked p) in
    going c.args.self.now next Done _ c.go.result c.go.ensures (λ change answer writes.
    class_change c.args.self.now c.args.day c.args.code.now (asked p) change (sound_tree c.args.self.now c.requires) accepted (sym answer)
    (writes ∙ (λ i. row_write.Class (codes i).0 (record { title = title i; schedule = (codes i).1 }) ∷ day_writes c.args.self.now c.args.day)))
