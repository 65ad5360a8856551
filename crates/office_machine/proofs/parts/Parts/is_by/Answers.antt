use Rattle.std.proofs.Common.{length, subst, sym}
use Rattle.office_records.specs.Examined.{IsTreeBy}
use Rattle.office_records.specs.Sound.{AreEventsSound}
use Rattle.office_rules.specs.SoundHolds.{NoHoldIsAfter}
use Rattle.office_rules.specs.State.{Office}
use Rattle.office_machine.proofs.parts.Parts.is_by.Goals as goal

pub returns-then-not-are_events_sound-clause-no : goal.returns-then-not-are_events_sound-clause-no
returns-then-not-are_events_sound-clause-no c = λ reported by. c.are_events_sound.ensures.no c.if-not-are_events_sound.true (subst (λ (o : Office). AreEventsSound o.tree.events (length o.tree.records) o.day) (sym c.self.view_is) by.events_by)

pub returns-then-not-are_by-clause-no : goal.returns-then-not-are_by-clause-no
returns-then-not-are_by-clause-no c = λ reported by. c.are_by.ensures.no c.if-not-are_by.true (subst (λ (o : Office). NoHoldIsAfter o.holds o.day) (sym c.self.view_is) by.holds_by)

pub returns-clause-yes : goal.returns-clause-yes
returns-clause-yes c = λ reported. record {
  tree_by = subst (λ (o : Office). IsTreeBy o.tree.aggregations o.tree.records o.day) c.self.view_is (c.is_by.ensures.yes c.if-not-is_by.false);
  events_by = subst (λ (o : Office). AreEventsSound o.tree.events (length o.tree.records) o.day) c.self.view_is (c.are_events_sound.ensures.yes c.if-not-are_events_sound.false);
  holds_by = subst (λ (o : Office). NoHoldIsAfter o.holds o.day) c.self.view_is (c.are_by.ensures.yes c.if-not-are_by.false);
  runs_by = c.are_runs_by.ensures.yes reported;
}
