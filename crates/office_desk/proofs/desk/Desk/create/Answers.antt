use Rattle.std.proofs.Common.{refl}
use Rattle.std.proofs.lemmas.Result.{err_from_is_err_and}
use Rattle.office_desk.proofs.Opened.{begun, not_begun}
use Rattle.office_desk.proofs.desk.Desk.create.Goals as goal

pub returns-in_err-store-clause-err : goal.returns-in_err-store-clause-err
returns-in_err-store-clause-err g c =
    let failed = err_from_is_err_and c.from_residual.result c.from_residual.ensures.1 in
    rw (failed.1, failed.2) (not_begun g.S.Store c.args.conn c.in_err-store.field-0.0.0 c.in_err-store.field-0.0.1 c.requires.none c.in_err-store.ensures.err)

pub returns-clause-ok : goal.returns-clause-ok
returns-clause-ok g c = begun g.S.Store c.args.conn _ c.requires.none refl c.new.ensures c.law_of_the_first_state.ensures c.in_ok-store.ensures.ok
