use Rattle.std.proofs.Common.{◌∙◌, ℤ, Result, Ok, Err, ap}
use Rattle.office_base.specs.declared.refusal.Refusal.{Refusal}
use Rattle.office_plan.specs.DueCommand.{due_asked, due_made, move_asked}
use Rattle.office_plan.specs.Parts.{period_part}
use Rattle.office_plan.proofs.PartLemmas.{made-both}
use Rattle.office_plan.proofs.due.due_of.Goals as goal

pub returns-in-Ok : goal.returns-in-Ok
unfolding due_asked
returns-in-Ok c =
    let reported : ℤ → Result ℤ Refusal = λ due. Ok due in
    ap reported c.due_made.ensures
    ∙ made-both due_made c.read_period.result (period_part c.args.unit.now c.args.count.now) c.read_move.result (move_asked c.args.offset.now c.args.day.now) c.both.result (Ok c.in-Ok.operands) c.in-Ok.is c.both.ensures c.read_period.ensures c.read_move.ensures

pub returns-in-Err : goal.returns-in-Err
unfolding due_asked
returns-in-Err c =
    made-both due_made c.read_period.result (period_part c.args.unit.now c.args.count.now) c.read_move.result (move_asked c.args.offset.now c.args.day.now) c.both.result (Err c.in-Err.refusal) c.in-Err.is c.both.ensures c.read_period.ensures c.read_move.ensures
