use Rattle.std.proofs.Common.{◌≡◌, ◌∙◌, ap, sym, Option, Some, None}
use Rattle.std.specs.Option.{option_copied, option_map}
use Rattle.std.specs.FinMap.{from_entries, get}
use Rattle.std.specs.Ordering.{nat_cmp}
use Rattle.office_records.specs.Lists.{or_else}
use Rattle.office_records.specs.Tree.{start_by}
use Rattle.office_records.specs.declared.event.Event.{Event}
use Rattle.office_records.specs.declared.head.Review.{Review}
use Rattle.office_tree.proofs.EventPlaces.{event_is}
use Rattle.office_records.proofs.Places.{numbered_read}
use Rattle.office_tree.proofs.Kept.{last_read}
use Rattle.office_tree.proofs.ScheduleLemmas.{start_in-head}
use Rattle.office_tree.proofs.due_days.start_in.Goals as goal

pub returns-in-Origin : goal.returns-in-Origin
returns-in-Origin c =
    let head = numbered_read c.args.records.now c.args.record_no c.index-records-record_no.result c.requires.low c.requires.high c.index-records-record_no.is in
    sym (start_in-head c.args.aggregations.now c.args.records.now (from_entries c.args.events.now.entries) c.args.schedule c.args.record_no c.index-records-record_no.result head ∙ ap (λ t. start_by t c.args.aggregations.now c.args.records.now (get (from_entries {R = nat_cmp} c.args.events.now.entries) c.args.record_no) c.index-records-record_no.result) c.in-Origin.is)

pub returns-in-Added : goal.returns-in-Added
returns-in-Added c =
    let head = numbered_read c.args.records.now c.args.record_no c.index-records-record_no.result c.requires.low c.requires.high c.index-records-record_no.is in
    sym (start_in-head c.args.aggregations.now c.args.records.now (from_entries c.args.events.now.entries) c.args.schedule c.args.record_no c.index-records-record_no.result head ∙ ap (λ t. start_by t c.args.aggregations.now c.args.records.now (get (from_entries {R = nat_cmp} c.args.events.now.entries) c.args.record_no) c.index-records-record_no.result) c.in-Added.is)

pub returns-in-Closed : goal.returns-in-Closed
returns-in-Closed c =
    let head = numbered_read c.args.records.now c.args.record_no c.index-records-record_no.result c.requires.low c.requires.high c.index-records-record_no.is in
    c.closed_day.ensures ∙ sym (start_in-head c.args.aggregations.now c.args.records.now (from_entries c.args.events.now.entries) c.args.schedule c.args.record_no c.index-records-record_no.result head ∙ ap (λ t. start_by t c.args.aggregations.now c.args.records.now (get (from_entries {R = nat_cmp} c.args.events.now.entries) c.args.record_no) c.index-records-record_no.result) c.in-Closed.is)

pub returns-in-LastAddition : goal.returns-in-LastAddition
returns-in-LastAddition c =
    let head = numbered_read c.args.records.now c.args.record_no c.index-records-record_no.result c.requires.low c.requires.high c.index-records-record_no.is in
    last_read c.args.summaries.now c.args.aggregations.now c.args.records.now c.index-records-record_no.result.aggregation c.last_addition_of.result c.requires.last c.last_addition_of.ensures ∙ sym (start_in-head c.args.aggregations.now c.args.records.now (from_entries c.args.events.now.entries) c.args.schedule c.args.record_no c.index-records-record_no.result head ∙ ap (λ t. start_by t c.args.aggregations.now c.args.records.now (get (from_entries {R = nat_cmp} c.args.events.now.entries) c.args.record_no) c.index-records-record_no.result) c.in-LastAddition.is)

pub returns-in-Some : goal.returns-in-Some
returns-in-Some c =
    let head = numbered_read c.args.records.now c.args.record_no c.index-records-record_no.result c.requires.low c.requires.high c.index-records-record_no.is in
    sym (start_in-head c.args.aggregations.now c.args.records.now (from_entries c.args.events.now.entries) c.args.schedule c.args.record_no c.index-records-record_no.result head ∙ ap (λ t. start_by t c.args.aggregations.now c.args.records.now (get (from_entries {R = nat_cmp} c.args.events.now.entries) c.args.record_no) c.index-records-record_no.result) c.in-Review.is
    ∙ ap (λ (review : Option Review). or_else (option_map (λ (it : Review). it.day) review) (Some c.index-records-record_no.result.added)) c.in-Some.is)

pub returns-in-None : goal.returns-in-None
returns-in-None c =
    let head = numbered_read c.args.records.now c.args.record_no c.index-records-record_no.result c.requires.low c.requires.high c.index-records-record_no.is in
    sym (start_in-head c.args.aggregations.now c.args.records.now (from_entries c.args.events.now.entries) c.args.schedule c.args.record_no c.index-records-record_no.result head ∙ ap (λ t. start_by t c.args.aggregations.now c.args.records.now (get (from_entries {R = nat_cmp} c.args.events.now.entries) c.args.record_no) c.index-records-record_no.result) c.in-Review.is
    ∙ ap (λ (review : Option Review). or_else (option_map (λ (it : Review). it.day) review) (Some c.index-records-record_no.result.added)) c.in-None.is)

pub returns-in-Some-get : goal.returns-in-Some-get
returns-in-Some-get c =
    let r = c.args.record_no in
    let events = c.args.events.now.entries in
    let head = numbered_read c.args.records.now r c.index-records-record_no.result c.requires.low c.requires.high c.index-records-record_no.is in
    let found : get (from_entries {R = nat_cmp} events) r ≡ Some c.in-Some-get.event.now = event_is events r ∙ sym c.get.ensures.value ∙ ap option_copied c.in-Some-get.is in
    sym (start_in-head c.args.aggregations.now c.args.records.now (from_entries events) c.args.schedule r c.index-records-record_no.result head
    ∙ ap (λ t. start_by t c.args.aggregations.now c.args.records.now (get (from_entries {R = nat_cmp} events) r) c.index-records-record_no.result) c.in-Event.is
    ∙ ap (option_map (λ (it : Event). it.occurred)) found)

pub returns-in-None-get : goal.returns-in-None-get
returns-in-None-get c =
    let r = c.args.record_no in
    let events = c.args.events.now.entries in
    let head = numbered_read c.args.records.now r c.index-records-record_no.result c.requires.low c.requires.high c.index-records-record_no.is in
    let found : get (from_entries {R = nat_cmp} events) r ≡ None = event_is events r ∙ sym c.get.ensures.value ∙ ap option_copied c.in-None-get.is in
    sym (start_in-head c.args.aggregations.now c.args.records.now (from_entries events) c.args.schedule r c.index-records-record_no.result head
    ∙ ap (λ t. start_by t c.args.aggregations.now c.args.records.now (get (from_entries {R = nat_cmp} events) r) c.index-records-record_no.result) c.in-Event.is
    ∙ ap (option_map (λ (it : Event). it.occurred)) found)
