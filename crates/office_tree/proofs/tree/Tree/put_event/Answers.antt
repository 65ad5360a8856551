use Rattle.std.proofs.Common.{◌≡◌, ◌∙◌, Some, sym, ap, subst}
use Rattle.std.specs.FinMap.{from_entries}
use Rattle.office_records.specs.Lists.{numbered}
use Rattle.office_tree.specs.Derived.{CanCache}
use Rattle.office_tree.specs.RecordCaches.{IsRecordCache}
use Rattle.office_records.specs.Rows.{put_event}
use Rattle.office_tree.specs.Stored.{IsStored}
use Rattle.office_records.specs.Tree.{TreeState, code_cmp}
use Rattle.office_tree.specs.declared.record_cache.RecordCache.{RecordCache}
use Rattle.office_tree.specs.contracts.tree.Tree.{the_view}
use Rattle.office_tree.proofs.EventPlaces.{event_inserted}
use Rattle.office_tree.proofs.EventPut.{event_stored, sound_event}
use Rattle.office_tree.proofs.Kept.{last_additions}
use Rattle.office_tree.proofs.tree.Tree.put_event.Goals as goal

pub refresh-requires-clause-ready : goal.refresh-requires-clause-ready
refresh-requires-clause-ready c =
    let tree = the_view c.self.inside in
    let stored = c.self.invariant.stored in
    let new = event_inserted c.self.inside.events.entries c.insert.new.self.entries c.args.record_no c.args.event c.in_ok-insert.ensures.updates.0 in
    subst (λ (t : TreeState). CanCache t c.self.inside.derived.directory) (λ i. record tree { aggregations = sym c.deref.ensures.value i; records = sym c.deref-2.ensures.value i; statuses = sym c.deref-3.ensures.value i; events = sym new i }) (record {
      sound = sound_event tree c.args.record_no c.args.event stored.sound;
      schedules = stored.schedule_numbers;
      last = last_additions tree c.self.inside.derived.directory.summaries.items stored.summaries;
    })

pub returns-clause-ok : goal.returns-clause-ok
returns-clause-ok c =
    let tree = the_view c.self.inside in
    let new = event_inserted c.self.inside.events.entries c.insert.new.self.entries c.args.record_no c.args.event c.in_ok-insert.ensures.updates.0 in
    ap (λ events. record tree { events = events }) new ∙ ap (λ t. put_event t c.args.record_no c.args.event) c.self.view_is

pub invariant_of-self-2 : goal.invariant_of-self-2
invariant_of-self-2 c =
    let tree = the_view c.self.inside in
    let r = c.args.record_no in
    let event = c.args.event in
    let by_aggregation_ref = from_entries {R = code_cmp} c.self.inside.derived.directory.by_aggregation_ref.entries in
    let by_record_ref = from_entries {R = code_cmp} c.self.inside.derived.directory.by_record_ref.entries in
    let new = event_inserted c.self.inside.events.entries c.insert.new.self.entries r event c.in_ok-insert.ensures.updates.0 in
    let here = λ (it : RecordCache) (e : numbered c.refresh.new.self.rows.items r ≡ Some it). subst (λ (t : TreeState). IsRecordCache c.self.inside.derived.directory.schedule_numbers t r it) (λ i. record tree { aggregations = c.deref.ensures.value i; records = c.deref-2.ensures.value i; statuses = c.deref-3.ensures.value i; events = new i }) (c.refresh.ensures.here it e) in
    let kept = event_stored tree by_aggregation_ref by_record_ref c.self.inside.derived.directory.schedule_numbers c.self.inside.derived.per_record.record_caches.rows.items c.refresh.new.self.rows.items c.self.inside.derived.directory.summaries.items c.self.inside.derived.directory.records_in.last.items c.self.inside.derived.directory.records_in.before.items r event
    c.self.invariant.stored c.refresh.ensures.count here c.refresh.ensures.others in
    record { stored = subst (λ (t : TreeState). IsStored t by_aggregation_ref by_record_ref c.self.inside.derived.directory.schedule_numbers c.refresh.new.self.rows.items c.self.inside.derived.directory.summaries.items c.self.inside.derived.directory.records_in.last.items c.self.inside.derived.directory.records_in.before.items) (sym (ap (λ events. record tree { events = events }) new)) kept; aggregations_in = c.self.invariant.aggregations_in; class_index = c.self.invariant.class_index }
