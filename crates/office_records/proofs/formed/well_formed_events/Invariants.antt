use Rattle.std.proofs.Common.{ℕ}
use Rattle.std.specs.List.{All}
use Rattle.office_records.specs.Forms.{IsWellFormedEvent}
use Rattle.office_records.specs.declared.event.Event.{Event}
use Rattle.office_records.proofs.formed.well_formed_events.Given as goal

-- where those that are left are of their forms, all are
abbrev pub invariant-loop-number : goal.invariant-loop-number
invariant-loop-number l = All (λ (e : ℕ × Event). IsWellFormedEvent e.1) l.number-iterator → All (λ (e : ℕ × Event). IsWellFormedEvent e.1) l.events.entries
