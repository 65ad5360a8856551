use Rattle.std.proofs.Common.{Err, ◌∙◌, ap}
use Rattle.std.proofs.lemmas.Result.{err_from_is_err_and}
use Rattle.office_store.proofs.TablesTaken.{holds_taken, targets_taken}
use Rattle.office_store.proofs.Takings.{failed_in, then_taken}
use Rattle.office_store.proofs.adoption.take_holding.Goals as goal

pub returns-in_err-take_rows-clause-takes : goal.returns-in_err-take_rows-clause-takes
returns-in_err-take_rows-clause-takes g c e =
    let failed = err_from_is_err_and c.from_residual.result c.from_residual.ensures.1 in
    failed_in (failed.1 ∙ ap Err failed.2) (holds_taken e c.in_err-take_rows.ensures.takes)

pub returns-clause-takes : goal.returns-clause-takes
returns-clause-takes g c e = then_taken (holds_taken e c.in_ok-take_rows.ensures.takes) (targets_taken e c.take_rows-2.ensures.takes)
