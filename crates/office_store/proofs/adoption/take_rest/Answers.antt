use Rattle.std.proofs.Common.{Err, Ok, ◌∙◌, ap}
use Rattle.std.proofs.lemmas.Result.{err_from_is_err_and}
use Rattle.office_store.proofs.Takings.{failed_in, then_taken}
use Rattle.office_store.proofs.adoption.take_rest.Goals as goal

pub returns-in_err-take_plans-clause-takes : goal.returns-in_err-take_plans-clause-takes
returns-in_err-take_plans-clause-takes g c =
    let failed = err_from_is_err_and c.from_residual.result c.from_residual.ensures.1 in
    failed_in (failed.1 ∙ ap Err failed.2) c.in_err-take_plans.ensures.takes

pub returns-in_err-take_things-clause-takes : goal.returns-in_err-take_things-clause-takes
returns-in_err-take_things-clause-takes g c =
    let failed = err_from_is_err_and c.from_residual-in_err-take_things.result c.from_residual-in_err-take_things.ensures.1 in
    failed_in (failed.1 ∙ ap Err failed.2) (then_taken {result = Err c.in_err-take_things.field-0.0} c.in_ok-take_plans.ensures.takes c.in_err-take_things.ensures.takes)

pub returns-in_err-take_holding-clause-takes : goal.returns-in_err-take_holding-clause-takes
returns-in_err-take_holding-clause-takes g c =
    let failed = err_from_is_err_and c.from_residual-in_err-take_holding.result c.from_residual-in_err-take_holding.ensures.1 in
    failed_in (failed.1 ∙ ap Err failed.2) (then_taken {result = Err c.in_err-take_holding.field-0.0} (then_taken {result = Ok c.in_ok-take_things.field-0} c.in_ok-take_plans.ensures.takes c.in_ok-take_things.ensures.takes) (c.in_err-take_holding.ensures.takes c.args.schema_version))

pub returns-clause-takes : goal.returns-clause-takes
returns-clause-takes g c = then_taken (then_taken (then_taken c.in_ok-take_plans.ensures.takes c.in_ok-take_things.ensures.takes) (c.in_ok-take_holding.ensures.takes c.args.schema_version)) (c.take_running.ensures.takes c.args.schema_version)
