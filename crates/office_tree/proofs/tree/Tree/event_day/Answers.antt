use Rattle.std.proofs.Common.{◌≡◌, ◌∙◌, Some, None, ap, sym}
use Rattle.std.specs.FinMap.{from_entries, get}
use Rattle.std.specs.Option.{option_copied, option_map}
use Rattle.std.specs.Ordering.{nat_cmp}
use Rattle.office_records.specs.Tree.{event_day}
use Rattle.office_records.specs.declared.event.Event.{Event}
use Rattle.office_tree.proofs.EventPlaces.{event_is}
use Rattle.office_tree.proofs.tree.Tree.event_day.Goals as goal

pub returns-in-Some : goal.returns-in-Some
returns-in-Some c =
    let events = c.self.inside.events.entries in
    let found : get (from_entries {R = nat_cmp} events) c.args.record_no ≡ Some c.in-Some.event.now = event_is events c.args.record_no ∙ sym c.get.ensures.value ∙ ap option_copied c.in-Some.is in
    sym (ap (option_map (λ (it : Event). it.occurred)) found) ∙ ap (λ tree. event_day tree c.args.record_no) c.self.view_is

pub returns-in-None : goal.returns-in-None
returns-in-None c =
    let events = c.self.inside.events.entries in
    let found : get (from_entries {R = nat_cmp} events) c.args.record_no ≡ None = event_is events c.args.record_no ∙ sym c.get.ensures.value ∙ ap option_copied c.in-None.is in
    sym (ap (option_map (λ (it : Event). it.occurred)) found) ∙ ap (λ tree. event_day tree c.args.record_no) c.self.view_is
