use Rattle.std.proofs.Common.{◌∙◌, sym, ap, refl, subst}
use Rattle.std.specs.Option.{option_copied}
use Rattle.office_records.specs.Conditions.{first_of, conditions_of_set_record_schedule}
use Rattle.office_records.specs.Tree.{TreeState}
use Rattle.office_records.specs.Sound.{IsSound}
use Rattle.office_rules.specs.Conditions.{refusals_of_set_record_schedule}
use Rattle.office_rules.specs.Effects.{after_set_record_schedule}
use Rattle.office_rules.specs.State.{ByteMap, with_contents, with_office}
use Rattle.office_rules.specs.Steps.{step_set_record_schedule}
use Rattle.office_rules.specs.declared.answer.Answer.TheVariants.{Done}
use Rattle.office_machine.proofs.DecidedRecords.{IsRead, accepted_in, record_to_schedule, scheduled}
use Rattle.office_machine.proofs.Decisions.{going, refused_step}
use Rattle.office_machine.proofs.OfficeSound.{sound_tree}
use Rattle.office_machine.proofs.parts.Parts.decide_set_record_schedule.Goals as goal

pub returns-in-Some : goal.returns-in-Some
returns-in-Some c = (
  λ contents.
      let s = c.args.self.now in
      let schedule = option_copied c.args.schedule in
      let checked = c.check_set_record_schedule.ensures.first ∙ ap (λ (t : TreeState). first_of (conditions_of_set_record_schedule t c.args.record_no schedule)) (ap (λ o. o.tree) c.self.view_is) in
      let table = c.dated.ensures (conditions_of_set_record_schedule s.tree c.args.record_no schedule) checked in
      refused_step (refusals_of_set_record_schedule s c.args.day c.args.record_no schedule) c.in-Some.refusal (with_contents s contents) Done (with_office (with_contents s contents) (after_set_record_schedule s c.args.day c.args.record_no schedule)) (sym table ∙ c.in-Some.is),
  refl,
)

pub record-requires : goal.record-requires
record-requires c =
    let t = c.self.inside.tree in
    let conditions = conditions_of_set_record_schedule t c.args.record_no (option_copied c.args.schedule) in
    record_to_schedule t c.args.record_no (option_copied c.args.schedule) (accepted_in c.args.self.now c.args.day conditions c.dated.result (c.dated.ensures conditions c.check_set_record_schedule.ensures.first) c.in_default.is)

pub status-status-requires : goal.status-status-requires
status-status-requires c =
    let t = c.self.inside.tree in
    let conditions = conditions_of_set_record_schedule t c.args.record_no (option_copied c.args.schedule) in
    record_to_schedule t c.args.record_no (option_copied c.args.schedule) (accepted_in c.args.self.now c.args.day conditions c.dated.result (c.dated.ensures conditions c.check_set_record_schedule.ensures.first) c.in_default.is)

pub returns : goal.returns
returns c =
    let t = c.self.inside.tree in
    let schedule = option_copied c.args.schedule in
    let table = sym (c.dated.ensures (conditions_of_set_record_schedule t c.args.record_no schedule) c.check_set_record_schedule.ensures.first) ∙ c.in_default.is in
    let reads : IsRead t c.args.record_no c.record.result.now c.status-status.result = record { sound = subst IsSound (sym (ap (λ o. o.tree) c.self.view_is)) (sound_tree c.args.self.now c.requires); there = c.record.ensures; representing = c.status-status.ensures } in
    let next = λ (contents : ByteMap). step_set_record_schedule (with_contents c.args.self.now contents) c.args.day c.args.record_no schedule in
    going c.args.self.now next Done _ c.go.result c.go.ensures (λ change answer writes.
    scheduled c.args.self.now t c.args.day c.args.record_no schedule c.record.result.now (record (c.in_ok-head.head) { schedule = c.in_ok-own.own }) c.status-status.result change
    (ap (λ o. o.tree) c.self.view_is) table reads (λ i. record (c.in_ok-head.ensures i) { schedule = c.in_ok-own.ensures i }) answer writes)
