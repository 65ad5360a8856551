use Rattle.std.proofs.Common.{◌∙◌, ◌+◌, ◌++◌, List, sym, ap, refl, subst}
use Rattle.std.specs.Option.{option_copied}
use Rattle.office_records.specs.Conditions.{conditions_of_add_record}
use Rattle.office_records.specs.Sound.{IsSound}
use Rattle.office_rules.specs.declared.rows.RowWrite.{RowWrite}
use Rattle.office_machine.specs.DayWrites.{day_writes}
use Rattle.office_machine.specs.Filings.{filed}
use Rattle.office_machine.proofs.DecidedAdditions.{addition_refused, record_added, same_addition}
use Rattle.office_machine.proofs.OfficeSound.{sound_tree}
use Rattle.office_machine.proofs.parts.Parts.decide_add_record.Goals as goal

pub returns-in-Some-dated : goal.returns-in-Some-dated
returns-in-Some-dated c =
    let s = c.args.self.now in
    let new = filed c.args.new.now in
    let given = same_addition c.self.inside.tree s.tree new.ref_text new.aggregation (option_copied c.as_ref-class.result) new.class (option_copied c.as_ref-schedule.result) new.schedule (ap (λ o. o.tree) c.self.view_is) c.as_ref-class.ensures.value c.as_ref-schedule.ensures.value in
    let table = c.dated.ensures (conditions_of_add_record s.tree new.ref_text new.aggregation new.class new.schedule) (c.check_add_record-check.ensures.first ∙ given) in
    (addition_refused s c.args.day new c.in-Some-dated.refusal (sym c.same_record.ensures ∙ c.in_default.is) (sym table ∙ c.in-Some-dated.is), refl)

pub returns : goal.returns
returns c =
    let new = filed c.args.new.now in
    let t = c.self.inside.tree in
    let given = same_addition t t new.ref_text new.aggregation (option_copied c.as_ref-class.result) new.class (option_copied c.as_ref-schedule.result) new.schedule refl c.as_ref-class.ensures.value c.as_ref-schedule.ensures.value in
    let table = c.dated.ensures (conditions_of_add_record t new.ref_text new.aggregation new.class new.schedule) (c.check_add_record-check.ensures.first ∙ given) in (
      record_added c.args.self.now t c.args.day new (c.record_count-number.result + 1) c.in_ok-head.head c.in_ok-bytes.bytes _
          (ap (λ o. o.tree) c.self.view_is) (sym c.same_record.ensures ∙ c.in_default.is) (sym table ∙ c.in_default-dated.is) (subst IsSound (sym (ap (λ o. o.tree) c.self.view_is)) (sound_tree c.args.self.now c.requires))
          (ap (λ n. n + 1) c.record_count-number.ensures.count) c.in_ok-head.ensures (c.in_ok-bytes.ensures.items ∙ c.bytes-2.ensures.value) refl
          (c.in_ok-writes-2.ensures ∙ ap (λ (ws : List RowWrite). ws ++ day_writes c.args.self.now c.args.day) c.in_ok-writes.ensures),
      refl,
    )
