use Rattle.std.proofs.lemmas.Result.{IfErr-weaker, IfOk-weaker, err_from_is_err_and}
use Rattle.office_desk.proofs.MigratedDesks.{not_taken, not_up, taken_up}
use Rattle.office_desk.proofs.desk.Desk.open_existing.Goals as goal

pub returns-in_err-machine-clause-err : goal.returns-in_err-machine-clause-err
returns-in_err-machine-clause-err g c =
    let failed = err_from_is_err_and c.from_residual.result c.from_residual.ensures.1 in
    rw (failed.1, failed.2) (not_taken g.S.Store c.args.conn c.requires.there c.in_err-machine.field-0.0.0 c.in_err-machine.field-0.0.1 c.in_err-machine.ensures.err)

pub returns-clause-ok : goal.returns-clause-ok
returns-clause-ok g c =
    IfOk-weaker c.migrate.result _ _ (λ desk up. taken_up g.S.Store c.args.conn c.requires.there c.in_ok-machine.store c.in_ok-machine.machine c.in_ok-machine.ensures.ok desk up) c.migrate.ensures.ok

pub returns-clause-err : goal.returns-clause-err
returns-clause-err g c =
    IfErr-weaker c.migrate.result _ _ (λ e down. not_up g.S.Store c.args.conn c.requires.there c.in_ok-machine.store c.in_ok-machine.machine c.in_ok-machine.ensures.ok e.0 e.1 down) c.migrate.ensures.err
