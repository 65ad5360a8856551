use Rattle.std.proofs.Common.{◌≡◌, ◌∙◌, false, refl, sym, ap, subst}
use Rattle.std.specs.List.{list_any}
use Rattle.std.specs.Str.{bytes_eq}
use Rattle.office_rules.specs.Sound.{IsSoundOffice}
use Rattle.office_records.specs.Lists.{numbered}
use Rattle.office_records.specs.Tree.{TreeState}
use Rattle.office_records.specs.declared.head.Record.{Record}
use Rattle.office_machine.specs.Filings.{filed}
use Rattle.office_machine.proofs.SameRecords.{named, none_is_same, ref_is_another, ref_is_same}
use Rattle.office_machine.proofs.parts.Parts.same_record.Goals as goal

pub returns-then-is_same : goal.returns-then-is_same
unfolding IsSoundOffice
returns-then-is_same c =
    let there = ap (λ (t : TreeState). numbered t.records c.in-Some.record_no) (sym (ap (λ o. o.tree) c.self.view_is)) ∙ c.record.ensures in
    let has_ref = named c.self.inside.tree.records c.in-Some.record_no c.record.result.now (filed c.args.new.now) c.record.ensures c.in-Some.ensures.some in
    sym (ref_is_same (filed c.args.new.now) c.args.self.now.tree.records c.requires.sound.1.refs.of_records c.in-Some.record_no c.record.result.now there has_ref (sym c.is_same.ensures ∙ c.if-is_same.true))

pub returns-else-is_same : goal.returns-else-is_same
unfolding IsSoundOffice
returns-else-is_same c =
    let there = ap (λ (t : TreeState). numbered t.records c.in-Some.record_no) (sym (ap (λ o. o.tree) c.self.view_is)) ∙ c.record.ensures in
    let has_ref = named c.self.inside.tree.records c.in-Some.record_no c.record.result.now (filed c.args.new.now) c.record.ensures c.in-Some.ensures.some in
    sym (ref_is_another (filed c.args.new.now) c.args.self.now.tree.records c.requires.sound.1.refs.of_records c.in-Some.record_no c.record.result.now there has_ref (sym c.is_same.ensures ∙ c.if-is_same.false))

pub returns-in-None : goal.returns-in-None
returns-in-None c =
    let none = subst (λ (t : TreeState). list_any (λ (head : Record). bytes_eq head.ref_text (filed c.args.new.now).ref_text) t.records ≡ false) (ap (λ o. o.tree) c.self.view_is) (c.in-None.ensures.none refl) in
    sym (none_is_same (filed c.args.new.now) c.args.self.now.tree.records none)
