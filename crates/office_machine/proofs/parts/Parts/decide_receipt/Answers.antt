use Rattle.std.proofs.Common.{◌∙◌, Some, sym, ap, refl, subst}
use Rattle.office_records.specs.Conditions.{first_of, conditions_of_receipt}
use Rattle.office_records.specs.Tree.{TreeState}
use Rattle.office_records.specs.Sound.{IsSound}
use Rattle.office_rules.specs.Conditions.{refusals_of_receipt}
use Rattle.office_rules.specs.Effects.{after_receipt}
use Rattle.office_rules.specs.State.{ByteMap, with_contents, with_office}
use Rattle.office_rules.specs.Steps.{step_receipt}
use Rattle.office_rules.specs.declared.answer.Answer.TheVariants.{Done}
use Rattle.office_machine.proofs.DecidedRecords.{accepted_in, record_to_receipt, received_on}
use Rattle.office_machine.proofs.Decisions.{going, refused_step}
use Rattle.office_machine.proofs.OfficeSound.{sound_tree}
use Rattle.office_machine.proofs.parts.Parts.decide_receipt.Goals as goal

pub returns-in-Some : goal.returns-in-Some
returns-in-Some c = (
  λ contents.
      let s = c.args.self.now in
      let checked = c.check_receipt.ensures.first ∙ ap (λ (t : TreeState). first_of (conditions_of_receipt t c.args.record_no c.args.digest)) (ap (λ o. o.tree) c.self.view_is) in
      let table = c.dated.ensures (conditions_of_receipt s.tree c.args.record_no c.args.digest) checked in
      refused_step (refusals_of_receipt s c.args.day c.args.record_no c.args.digest) c.in-Some.refusal (with_contents s contents) Done (with_office (with_contents s contents) (after_receipt s c.args.day c.args.record_no c.args.by.now)) (sym table ∙ c.in-Some.is),
  refl,
)

pub record-requires : goal.record-requires
record-requires c =
    let t = c.self.inside.tree in
    let conditions = conditions_of_receipt t c.args.record_no c.args.digest in
    record_to_receipt t c.args.record_no c.args.digest (accepted_in c.args.self.now c.args.day conditions c.dated.result (c.dated.ensures conditions c.check_receipt.ensures.first) c.in_default.is)

pub returns : goal.returns
returns c =
    let t = c.self.inside.tree in
    let table = sym (c.dated.ensures (conditions_of_receipt t c.args.record_no c.args.digest) c.check_receipt.ensures.first) ∙ c.in_default.is in
    let next = λ (contents : ByteMap). step_receipt (with_contents c.args.self.now contents) c.args.day c.args.record_no c.args.digest c.args.by.now in
    going c.args.self.now next Done _ c.go.result c.go.ensures (λ change answer writes.
    received_on c.args.self.now t c.args.day c.args.record_no c.args.digest c.args.by.now c.record.result.now (record (c.in_ok-head.head) { receipt = Some (record { day = c.args.day; by = c.in_ok-by.by }) }) change
    (ap (λ o. o.tree) c.self.view_is) table (subst IsSound (sym (ap (λ o. o.tree) c.self.view_is)) (sound_tree c.args.self.now c.requires)) c.record.ensures (λ i. record (c.in_ok-head.ensures i) { receipt = Some (record { day = c.args.day; by = c.in_ok-by.ensures i }) }) answer writes)
