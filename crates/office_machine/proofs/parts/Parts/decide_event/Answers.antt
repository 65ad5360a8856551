use Rattle.std.proofs.Common.{◌≡◌, ◌∷◌, ◌∙◌, List, ℕ, sym, ap, refl}
use Rattle.office_records.specs.Conditions.{first_of, conditions_of_event}
use Rattle.office_records.specs.Tree.{TreeState}
use Rattle.office_rules.specs.Conditions.{refusals_of_event}
use Rattle.office_rules.specs.Effects.{after_event}
use Rattle.office_rules.specs.State.{ByteMap, with_contents, with_office}
use Rattle.office_rules.specs.Steps.{step_event}
use Rattle.office_rules.specs.declared.answer.Answer.TheVariants.{Done}
use Rattle.office_rules.specs.declared.rows.RowWrite.TheVariants as row_write
use Rattle.office_machine.specs.DayWrites.{day_writes}
use Rattle.office_machine.proofs.DecidedEvents.{event_change, new_event}
use Rattle.office_machine.proofs.Decisions.{going, refused_step}
use Rattle.office_machine.proofs.parts.Parts.decide_event.Goals.{After-dated}
use Rattle.office_machine.proofs.parts.Parts.decide_event.Goals as goal

table : (c : After-dated) → c.dated.result ≡ first_of (refusals_of_event c.args.self.now c.args.day c.args.record_no c.args.occurred)
table c =
    let checked = c.check_event.ensures.first ∙ ap (λ (t : TreeState). first_of (conditions_of_event t c.args.day c.args.record_no c.args.occurred)) (ap (λ o. o.tree) c.self.view_is) in
    c.dated.ensures (conditions_of_event c.args.self.now.tree c.args.day c.args.record_no c.args.occurred) checked

pub returns-in-Some : goal.returns-in-Some
returns-in-Some c = (
  λ contents.
      let s = c.args.self.now in
      refused_step (refusals_of_event s c.args.day c.args.record_no c.args.occurred) c.in-Some.refusal (with_contents s contents) Done
      (with_office (with_contents s contents) (after_event s c.args.day c.args.record_no c.args.occurred c.args.by.now)) (sym (table (goal.at.returns-in-Some c).After-dated) ∙ c.in-Some.is),
  refl,
)

pub returns : goal.returns
returns c =
    let s = c.args.self.now in
    let accepted = sym (table (goal.at.returns c).After-dated) ∙ c.in_default.is in
    let next = λ (contents : ByteMap). step_event (with_contents s contents) c.args.day c.args.record_no c.args.occurred c.args.by.now in
    going s next Done _ c.go.result c.go.ensures (λ change answer writes.
    event_change s c.args.day c.args.record_no c.args.occurred c.args.by.now change accepted (sym answer)
    (writes ∙ ap (λ (by : List ℕ). row_write.Event c.args.record_no (new_event c.args.day c.args.occurred by) ∷ day_writes s c.args.day) c.in_ok-by.ensures))
