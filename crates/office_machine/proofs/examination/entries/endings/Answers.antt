use Rattle.std.proofs.Common.{◌∙◌, Ok, ap}
use Rattle.std.specs.FinMap.{from_entries, values}
use Rattle.std.specs.Ordering.{nat_cmp}
use Rattle.office_rules.specs.State.{entry_cmp}
use Rattle.office_machine.proofs.Endings.{all_noted, none_noted, noted_next, other_noted}
use Rattle.office_machine.proofs.RunEntries.{values_ordered}
use Rattle.office_machine.proofs.examination.entries.endings.Goals as goal

pub loop-entry-init : goal.loop-entry-init
loop-entry-init c =
    none_noted (from_entries c.new-ends.result.entries) c.into_iter-entry-iterator.result (values (from_entries {R = entry_cmp} c.args.entries.now.entries)) (ap (from_entries {R = nat_cmp}) c.new-ends.ensures.empty)
    (c.into_iter-entry-iterator.ensures.into_iter_gives ∙ c.values-entry-items.ensures.rest ∙ values_ordered c.args.entries.now.entries c.values-entry-items.ensures.ordered)

pub loop-entry-preserved : goal.loop-entry-preserved
loop-entry-preserved c =
    let reported = c.in_ok-note_ending.ensures in
    noted_next (from_entries c.loop-entry.ends.entries) (from_entries c.note_ending.new.ends.entries) c.loop-entry.entry-iterator c.next.new.self (values (from_entries {R = entry_cmp} c.args.entries.now.entries)) c.in-Some.entry.now
    c.loop-entry.invariant c.in-Some.ensures.steps (λ other. ap (from_entries {R = nat_cmp}) (reported.other other).1) reported.ending (λ ending. reported.one ending (ap Ok c.if-not-branch.false))

pub returns-then-not-branch : goal.returns-then-not-branch
returns-then-not-branch c =
    let other = c.in_ok-note_ending.ensures.two (ap Ok c.if-not-branch.true) in
    other_noted (from_entries c.loop-entry.ends.entries) c.loop-entry.entry-iterator c.next.new.self (values (from_entries {R = entry_cmp} c.args.entries.now.entries)) c.in-Some.entry.now c.loop-entry.invariant c.in-Some.ensures.steps other.0 other.1.0 other.1.1 other.1.2

pub returns : goal.returns
returns c = all_noted (from_entries c.loop-entry.ends.entries) c.loop-entry.entry-iterator (values (from_entries {R = entry_cmp} c.args.entries.now.entries)) c.loop-entry.invariant c.in-None.ensures.steps.0
