use Rattle.std.proofs.Common.{◌≤◌, ◌+◌, ◌∙◌, length, arith, sym, ap, subst}
use Rattle.std.specs.FinMap.{from_entries}
use Rattle.office_records.specs.Sound.{IsSound}
use Rattle.office_machine.proofs.Endings.{all_have, has_no_ending, next_has, none_has}
use Rattle.office_machine.proofs.parts.Parts.has_each_ended.Goals as goal

pub loop-before-init : goal.loop-before-init
loop-before-init c = none_has c.args.self.now.tree.statuses (from_entries c.args.ends.now.entries)

pub loop-before-preserved : goal.loop-before-preserved
loop-before-preserved c = next_has c.args.self.now.tree.statuses (from_entries c.args.ends.now.entries) c.loop-before.before c.loop-before.invariant (sym c.lacks_ending.ensures ∙ c.if-lacks_ending.false)

pub returns-then-lacks_ending-clause-no : goal.returns-then-lacks_ending-clause-no
returns-then-lacks_ending-clause-no c = λ reported.
    let lacking = has_no_ending c.args.self.now.tree.statuses (from_entries c.args.ends.now.entries) (c.loop-before.before + 1) (sym c.lacks_ending.ensures ∙ c.if-lacks_ending.true) in
    (c.loop-before.before + 1, lacking.0, lacking.1)

pub returns-clause-yes : goal.returns-clause-yes
returns-clause-yes c = λ reported.
    let s = c.args.self.now in
    let tree = ap (λ o. o.tree) c.self.view_is in
    let sound = subst IsSound tree c.sound.ensures in
    let count = ap (λ o. length o.tree.records) c.self.view_is in
    let many : length s.tree.statuses ≤ c.loop-before.before = omega (arith, sound.statuses, count, c.record_count-before-end.ensures.count, c.loop-before-test.false) in
    all_have s.tree.statuses (from_entries c.args.ends.now.entries) c.loop-before.before c.loop-before.invariant many
