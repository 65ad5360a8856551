use Rattle.std.proofs.Common.{◌∙◌, Some, sym, ap, refl, subst}
use Rattle.std.specs.Option.{option_copied}
use Rattle.office_records.specs.Conditions.{first_of, conditions_of_review}
use Rattle.office_records.specs.Lists.{or_else}
use Rattle.office_records.specs.Tree.{TreeState}
use Rattle.office_records.specs.Sound.{IsSound}
use Rattle.office_rules.specs.Conditions.{refusals_of_review}
use Rattle.office_rules.specs.Effects.{after_review}
use Rattle.office_rules.specs.State.{ByteMap, with_contents, with_office}
use Rattle.office_rules.specs.Steps.{step_review}
use Rattle.office_rules.specs.declared.answer.Answer.TheVariants.{Done}
use Rattle.office_machine.proofs.DecidedRecords.{IsRead, accepted_in, record_to_review, reviewed_on}
use Rattle.office_machine.proofs.Decisions.{going, refused_step}
use Rattle.office_machine.proofs.OfficeSound.{sound_tree}
use Rattle.office_machine.proofs.parts.Parts.decide_review.Goals as goal

pub returns-in-Some : goal.returns-in-Some
returns-in-Some c = (
  λ contents.
      let s = c.args.self.now in
      let schedule = option_copied c.args.schedule in
      let checked = c.check_review.ensures.first ∙ ap (λ (t : TreeState). first_of (conditions_of_review t c.args.day c.args.record_no schedule)) (ap (λ o. o.tree) c.self.view_is) in
      let table = c.dated.ensures (conditions_of_review s.tree c.args.day c.args.record_no schedule) checked in
      refused_step (refusals_of_review s c.args.day c.args.record_no schedule) c.in-Some.refusal (with_contents s contents) Done (with_office (with_contents s contents) (after_review s c.args.day c.args.record_no schedule c.args.by.now)) (sym table ∙ c.in-Some.is),
  refl,
)

pub record-old-requires : goal.record-old-requires
record-old-requires c =
    let t = c.self.inside.tree in
    let schedule = option_copied c.args.schedule in
    let conditions = conditions_of_review t c.args.day c.args.record_no schedule in
    record_to_review t c.args.day c.args.record_no schedule (accepted_in c.args.self.now c.args.day conditions c.dated.result (c.dated.ensures conditions c.check_review.ensures.first) c.in_default.is)

pub status-status-requires : goal.status-status-requires
status-status-requires c =
    let t = c.self.inside.tree in
    let schedule = option_copied c.args.schedule in
    let conditions = conditions_of_review t c.args.day c.args.record_no schedule in
    record_to_review t c.args.day c.args.record_no schedule (accepted_in c.args.self.now c.args.day conditions c.dated.result (c.dated.ensures conditions c.check_review.ensures.first) c.in_default.is)

pub returns : goal.returns
returns c =
    let t = c.self.inside.tree in
    let schedule = option_copied c.args.schedule in
    let table = sym (c.dated.ensures (conditions_of_review t c.args.day c.args.record_no schedule) c.check_review.ensures.first) ∙ c.in_default.is in
    let own = c.in_ok-schedule.ensures ∙ ap (or_else schedule) c.as_ref.ensures.value in
    let reads : IsRead t c.args.record_no c.record-old.result.now c.status-status.result = record { sound = subst IsSound (sym (ap (λ o. o.tree) c.self.view_is)) (sound_tree c.args.self.now c.requires); there = c.record-old.ensures; representing = c.status-status.ensures } in
    let next = λ (contents : ByteMap). step_review (with_contents c.args.self.now contents) c.args.day c.args.record_no schedule c.args.by.now in
    going c.args.self.now next Done _ c.go.result c.go.ensures (λ change answer writes.
    reviewed_on c.args.self.now t c.args.day c.args.record_no schedule c.args.by.now c.record-old.result.now (record (c.in_ok-head.head) { review = Some (record { day = c.args.day; by = c.in_ok-by.by }); schedule = c.in_ok-schedule.schedule }) c.status-status.result change
    (ap (λ o. o.tree) c.self.view_is) table reads (λ i. record (c.in_ok-head.ensures i) { review = Some (record { day = c.args.day; by = c.in_ok-by.ensures i }); schedule = own i }) answer writes)
