use Rattle.office_records.specs.declared.event.Event.{Event}
use Rattle.office_store.specs.Stored.{event_pair}
use Rattle.office_store.proofs.WholeRows.{whole_row}
use Rattle.office_store.proofs.stored.event_rows.Tuple2RecordNoEventStored.read.Goals as goal

pub returns-clause-ok : goal.returns-clause-ok
returns-clause-ok c =
    let event : Event = record { occurred = c.in_ok-day.field-0; day = c.in_ok-day-2.field-0; by = c.in_ok-words.field-0 } in
    whole_row c.args.row.now (event_pair (c.in_ok-numbered.numbered, event)) c.in_ok-has_columns.ensures.ok (c.in_ok-numbered.ensures.ok, (c.in_ok-day.ensures.ok, (c.in_ok-day-2.ensures.ok, (c.in_ok-words.ensures.ok, tt))))

pub returns-clause-formed : goal.returns-clause-formed
returns-clause-formed c =
    let event : Event = record { occurred = c.in_ok-day.field-0; day = c.in_ok-day-2.field-0; by = c.in_ok-words.field-0 } in
    ((c.in_ok-numbered.numbered, event), (c.in_ok-numbered.ensures.formed, record { occurred = c.in_ok-day.ensures.formed; day = c.in_ok-day-2.ensures.formed; by = c.in_ok-words.ensures.formed }), returns-clause-ok c)
