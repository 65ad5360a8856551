use Rattle.std.proofs.Common.{ℕ, List}
use Rattle.std.proofs.lemmas.List.Elements.{All-cons}
use Rattle.std.proofs.lemmas.Map.Iter.{rest_more}
use Rattle.std.specs.Map.Iter.{deref_pair}
use Rattle.office_records.specs.Forms.{IsCode, IsWellFormedSchedule}
use Rattle.office_records.specs.declared.schedule.Schedule.{Schedule}
use Rattle.office_records.proofs.formed.well_formed_schedules.Goals as goal

pub loop-code-preserved : goal.loop-code-preserved
loop-code-preserved c rest =
    let left = rest_more deref_pair c.loop-code.code-iterator c.next.new.self c.next.result (c.in-Some.code, c.in-Some.it) c.in-Some.is c.next.ensures.steps in
    c.loop-code.invariant (rw left (All-cons (λ (e : List ℕ × Schedule). IsCode e.0 × IsWellFormedSchedule e.1) (c.in-Some.code.now, c.in-Some.it.now) c.next.new.self (c.text.ensures.code, c.well_formed_schedule.ensures) rest))
