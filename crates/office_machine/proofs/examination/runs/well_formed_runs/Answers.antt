use Rattle.office_rules.specs.Sound.{IsWellFormedRun}
use Rattle.office_machine.proofs.RunTests.{numbers_more, numbers_all, numbers_none, read_at}
use Rattle.office_machine.proofs.examination.runs.well_formed_runs.Goals as goal

pub loop-run-init : goal.loop-run-init
loop-run-init c = numbers_none (λ n it. IsWellFormedRun it) c.args.runs.now

pub loop-run-preserved : goal.loop-run-preserved
loop-run-preserved c =
    numbers_more (λ n it. IsWellFormedRun it) c.args.runs.now c.loop-run.run-index c.run-item.result (read_at c.args.runs.now c.loop-run.run-index c.run-item.result c.loop-run-test.true c.run-item.is) c.well_formed_run.ensures c.loop-run.invariant

pub returns : goal.returns
returns c = numbers_all (λ n it. IsWellFormedRun it) c.args.runs.now c.loop-run.run-index c.loop-run-test.false c.loop-run.invariant
