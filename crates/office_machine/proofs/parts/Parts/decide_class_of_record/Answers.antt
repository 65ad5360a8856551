use Rattle.std.proofs.Common.{◌≡◌, Some, ap, subst, sym}
use Rattle.std.specs.Option.{option_copied}
use Rattle.office_records.specs.Lists.{numbered}
use Rattle.office_records.specs.Tree.{TreeState}
use Rattle.office_records.specs.declared.classified.Classified.TheVariants as classified
use Rattle.office_rules.specs.State.{ByteMap, with_contents}
use Rattle.office_rules.specs.Steps.{step_reclassify}
use Rattle.office_rules.specs.declared.answer.Answer.TheVariants.{Done}
use Rattle.office_machine.proofs.DecidedClasses.{record_reclassified}
use Rattle.office_machine.proofs.Decisions.{going}
use Rattle.office_machine.proofs.OfficeSound.{sound_tree}
use Rattle.office_machine.proofs.parts.Parts.decide_class_of_record.Goals as goal

pub returns : goal.returns
returns c =
    let tree = ap (λ o. o.tree) c.self.view_is in
    let old = c.record.result.now in
    let status = c.status-status.result in
    let there = subst (λ (t : TreeState). numbered t.records c.args.number ≡ Some old) tree c.record.ensures in
    let representing = subst (λ (t : TreeState). numbered t.statuses c.args.number ≡ Some status) tree c.status-status.ensures in
    let class = option_copied c.args.class in
    let next = λ (contents : ByteMap). step_reclassify (with_contents c.args.self.now contents) c.args.day (classified.Record c.args.number) class in
    going c.args.self.now next Done _ c.go.result c.go.ensures (λ change answer writes.
    record_reclassified c.args.self.now c.args.day c.args.number class old (record (c.in_ok-head.head) { class = c.in_ok-class.class }) status change
    (sound_tree c.args.self.now c.requires.sound) c.requires.accepted there representing (λ i. record (c.in_ok-head.ensures i) { class = c.in_ok-class.ensures i }) (sym answer) writes)
