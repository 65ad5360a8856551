use Rattle.std.proofs.Common.{◌≡◌, ◌∙◌, true, refl, sym, ap}
use Rattle.std.specs.FinMap.{values}
use Rattle.std.proofs.lemmas.Bool.{both_ways}
use Rattle.office_rules.specs.declared.entry.Entry.{Entry}
use Rattle.office_rules.specs.Loading.{is_entry_right}
use Rattle.office_rules.specs.State.{Office}
use Rattle.office_records.proofs.Passing.{all_passed, next_passes, none_passed, passed_next}
use Rattle.office_machine.proofs.RunEntries.{values_ordered}
use Rattle.office_machine.proofs.parts.Parts.are_entries_right.Goals as goal

-- the entry fits the office
abbrev Fits : Office → Entry → Type 0
Fits s e = is_entry_right s e ≡ true

pub loop-entry-init : goal.loop-entry-init
loop-entry-init c =
    let s = c.args.self.now in
    none_passed (Fits s) c.into_iter-entry-iterator.result (values s.entries)
    (c.into_iter-entry-iterator.ensures.into_iter_gives ∙ c.values-entry-items.ensures.rest ∙ values_ordered c.self.inside.entries.entries c.values-entry-items.ensures.ordered ∙ ap (λ (o : Office). values o.entries) c.self.view_is)

pub loop-entry-preserved : goal.loop-entry-preserved
loop-entry-preserved c =
    let s = c.args.self.now in
    passed_next (Fits s) c.loop-entry.entry-iterator c.next.new.self (values s.entries) c.in-Some.entry.now c.loop-entry.invariant c.in-Some.ensures.steps (sym c.is_entry_right.ensures ∙ c.if-not-is_entry_right.false)

pub returns-then-not-is_entry_right : goal.returns-then-not-is_entry_right
returns-then-not-is_entry_right c =
    let s = c.args.self.now in (
      λ reported. absurd (cc reported),
      λ all. absurd (both_ways c.is_entry_right.result c.if-not-is_entry_right.true (c.is_entry_right.ensures ∙ next_passes (Fits s) c.loop-entry.entry-iterator c.next.new.self (values s.entries) c.in-Some.entry.now c.loop-entry.invariant c.in-Some.ensures.steps all)),
    )

pub returns : goal.returns
returns c =
    let s = c.args.self.now in
    (λ reported. all_passed (Fits s) c.loop-entry.entry-iterator (values s.entries) c.loop-entry.invariant c.in-None.ensures.steps.0, λ all. refl)
