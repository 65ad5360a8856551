use Rattle.std.proofs.Common.{Err, ◌∙◌, ap}
use Rattle.std.proofs.lemmas.Result.{err_from_is_err_and}
use Rattle.office_store.proofs.TablesTaken.{contents_taken, records_taken}
use Rattle.office_store.proofs.Takings.{failed_in, then_taken}
use Rattle.office_store.proofs.adoption.take_things.Goals as goal

pub returns-in_err-take_rows-clause-takes : goal.returns-in_err-take_rows-clause-takes
returns-in_err-take_rows-clause-takes g c =
    let failed = err_from_is_err_and c.from_residual.result c.from_residual.ensures.1 in
    failed_in (failed.1 ∙ ap Err failed.2) (records_taken c.args.schema_version c.in_err-take_rows.ensures.takes)

pub returns-in_err-take_events-clause-takes : goal.returns-in_err-take_events-clause-takes
returns-in_err-take_events-clause-takes g c =
    let failed = err_from_is_err_and c.from_residual-in_err-take_events.result c.from_residual-in_err-take_events.ensures.1 in
    failed_in (failed.1 ∙ ap Err failed.2) (then_taken {result = Err c.in_err-take_events.field-0.0} (records_taken c.args.schema_version c.in_ok-take_rows.ensures.takes) c.in_err-take_events.ensures.takes)

pub returns-clause-takes : goal.returns-clause-takes
returns-clause-takes g c = then_taken (then_taken (records_taken c.args.schema_version c.in_ok-take_rows.ensures.takes) c.in_ok-take_events.ensures.takes) (contents_taken c.args.schema_version c.take_rows-2.ensures.takes)
