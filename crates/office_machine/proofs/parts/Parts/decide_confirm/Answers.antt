use Rattle.std.proofs.Common.{◌∙◌, sym, ap, refl, subst}
use Rattle.office_records.specs.Conditions.{first_of, conditions_of_confirm}
use Rattle.office_records.specs.Tree.{TreeState}
use Rattle.office_records.specs.Sound.{IsSound}
use Rattle.office_rules.specs.Conditions.{refusals_of_confirm}
use Rattle.office_rules.specs.Effects.{after_confirm}
use Rattle.office_rules.specs.State.{ByteMap, with_contents, with_office}
use Rattle.office_rules.specs.Steps.{step_confirm}
use Rattle.office_rules.specs.declared.answer.Answer.TheVariants.{Done}
use Rattle.office_machine.proofs.DecidedRecords.{IsRead, accepted_in, confirming, record_to_confirm, confirmed_on}
use Rattle.office_machine.proofs.Decisions.{going, refused_step}
use Rattle.office_machine.proofs.OfficeSound.{sound_tree}
use Rattle.office_machine.proofs.parts.Parts.decide_confirm.Goals as goal

pub returns-in-Some : goal.returns-in-Some
returns-in-Some c = (
  λ contents.
      let s = c.args.self.now in
      let checked = c.check_confirm.ensures.first ∙ ap (λ (t : TreeState). first_of (conditions_of_confirm t c.args.day c.args.record_no c.args.action)) (ap (λ o. o.tree) c.self.view_is) in
      let table = c.dated.ensures (conditions_of_confirm s.tree c.args.day c.args.record_no c.args.action) checked in
      refused_step (refusals_of_confirm s c.args.day c.args.record_no c.args.action) c.in-Some.refusal (with_contents s contents) Done (with_office (with_contents s contents) (after_confirm s c.args.day c.args.record_no c.args.action c.args.by.now)) (sym table ∙ c.in-Some.is),
  refl,
)

pub record-requires : goal.record-requires
record-requires c =
    let t = c.self.inside.tree in
    let conditions = conditions_of_confirm t c.args.day c.args.record_no c.args.action in
    record_to_confirm t c.args.day c.args.record_no c.args.action (accepted_in c.args.self.now c.args.day conditions c.dated.result (c.dated.ensures conditions c.check_confirm.ensures.first) c.in_default.is)

pub due_of-requires : goal.due_of-requires
due_of-requires c =
    let t = c.self.inside.tree in
    let conditions = conditions_of_confirm t c.args.day c.args.record_no c.args.action in
    record_to_confirm t c.args.day c.args.record_no c.args.action (accepted_in c.args.self.now c.args.day conditions c.dated.result (c.dated.ensures conditions c.check_confirm.ensures.first) c.in_default.is)

pub status-status-requires : goal.status-status-requires
status-status-requires c =
    let t = c.self.inside.tree in
    let conditions = conditions_of_confirm t c.args.day c.args.record_no c.args.action in
    record_to_confirm t c.args.day c.args.record_no c.args.action (accepted_in c.args.self.now c.args.day conditions c.dated.result (c.dated.ensures conditions c.check_confirm.ensures.first) c.in_default.is)

pub returns : goal.returns
returns c =
    let t = c.self.inside.tree in
    let table = sym (c.dated.ensures (conditions_of_confirm t c.args.day c.args.record_no c.args.action) c.check_confirm.ensures.first) ∙ c.in_default.is in
    let reported = c.in_ok-confirmation.ensures ∙ ap (confirming c.args.action c.args.day c.args.by.now) c.due_of.ensures in
    let reads : IsRead t c.args.record_no c.record.result.now c.status-status.result = record { sound = subst IsSound (sym (ap (λ o. o.tree) c.self.view_is)) (sound_tree c.args.self.now c.requires); there = c.record.ensures; representing = c.status-status.ensures } in
    let next = λ (contents : ByteMap). step_confirm (with_contents c.args.self.now contents) c.args.day c.args.record_no c.args.action c.args.by.now in
    going c.args.self.now next Done _ c.go.result c.go.ensures (λ change answer writes.
    confirmed_on c.args.self.now t c.args.day c.args.record_no c.args.action c.args.by.now c.record.result.now (record (c.in_ok-head.head) { confirmation = c.in_ok-confirmation.confirmation }) c.status-status.result change
    (ap (λ o. o.tree) c.self.view_is) table reads (λ i. record (c.in_ok-head.ensures i) { confirmation = reported i }) answer writes)
