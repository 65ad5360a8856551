use Rattle.std.proofs.Common.{ℕ}
use Rattle.std.proofs.lemmas.List.Elements.{All-cons}
use Rattle.std.proofs.lemmas.Map.Iter.{rest_more}
use Rattle.std.specs.Map.Iter.{deref_pair}
use Rattle.office_records.specs.Forms.{IsWellFormedEvent}
use Rattle.office_records.specs.declared.event.Event.{Event}
use Rattle.office_records.proofs.formed.well_formed_events.Goals as goal

pub loop-number-preserved : goal.loop-number-preserved
loop-number-preserved c rest =
    let left = rest_more deref_pair c.loop-number.number-iterator c.next.new.self c.next.result (c.in-Some.number, c.in-Some.it) c.in-Some.is c.next.ensures.steps in
    c.loop-number.invariant (rw left (All-cons (λ (e : ℕ × Event). IsWellFormedEvent e.1) (c.in-Some.number.now, c.in-Some.it.now) c.next.new.self c.well_formed_event.ensures rest))
