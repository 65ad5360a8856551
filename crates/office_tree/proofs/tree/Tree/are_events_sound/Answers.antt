use Rattle.std.proofs.Common.{◌≡◌, ℕ, length, subst, sym, true}
use Rattle.std.specs.FinMap.{from_entries}
use Rattle.std.specs.Ordering.{nat_cmp}
use Rattle.std.proofs.lemmas.Bool.{both_ways}
use Rattle.office_records.specs.Sound.{AreEventsSound}
use Rattle.office_records.specs.Tree.{TreeState}
use Rattle.office_tree.proofs.EventTests.{events_sound, events_tested}
use Rattle.office_tree.proofs.tree.Tree.are_events_sound.Goals as goal

pub returns-clause-yes : goal.returns-clause-yes
returns-clause-yes c = λ reported.
    let events = c.self.inside.events.entries in
    let sound = events_sound events c.record_count.result c.args.last (c.are_sound_events.ensures.0 reported) in
    let counted = subst (λ (n : ℕ). AreEventsSound (from_entries {R = nat_cmp} events) n c.args.last) c.record_count.ensures.count sound in
    subst (λ (t : TreeState). AreEventsSound t.events (length c.args.self.now.records) c.args.last) c.self.view_is counted

pub returns-clause-no : goal.returns-clause-no
returns-clause-no c = λ reported sound.
    let events = c.self.inside.events.entries in
    let viewed = subst (λ (t : TreeState). AreEventsSound t.events (length c.args.self.now.records) c.args.last) (sym c.self.view_is) sound in
    let counted = subst (λ (n : ℕ). AreEventsSound (from_entries {R = nat_cmp} events) n c.args.last) (sym c.record_count.ensures.count) viewed in
    let passes : c.are_sound_events.result ≡ true = c.are_sound_events.ensures.1 (events_tested events c.record_count.result c.args.last c.ascending.ensures counted) in
    absurd (both_ways c.are_sound_events.result reported passes)
