use Rattle.std.proofs.Common.{◌+◌, Ok, Err, map}
use Rattle.office_plan.specs.PlanLines.{schedule_at, schedule_made, keeping_at, disposal_at}
use Rattle.office_plan.proofs.PartLemmas.{made-both}
use Rattle.office_plan.proofs.plan_line.schedule_at.Goals as goal

pub returns-in-Ok : goal.returns-in-Ok
unfolding schedule_at
returns-in-Ok c =
    let words = map (λ word. word.now) c.args.words.now in
    made-both schedule_made c.keeping_at.result (keeping_at words c.args.i) c.disposal_at.result (disposal_at words (c.args.i + 3)) c.both.result (Ok (c.in-Ok.keeping, c.in-Ok.disposal)) c.in-Ok.is c.both.ensures c.keeping_at.ensures c.disposal_at.ensures

pub returns-in-Err : goal.returns-in-Err
unfolding schedule_at
returns-in-Err c =
    let words = map (λ word. word.now) c.args.words.now in
    made-both schedule_made c.keeping_at.result (keeping_at words c.args.i) c.disposal_at.result (disposal_at words (c.args.i + 3)) c.both.result (Err c.in-Err.refusal) c.in-Err.is c.both.ensures c.keeping_at.ensures c.disposal_at.ensures
