use Rattle.std.proofs.Common.{◌≡◌, ℕ, true}
use Rattle.office_records.specs.Examined.{is_sound_event}
use Rattle.office_records.specs.declared.event.Event.{Event}
use Rattle.office_records.proofs.Passing.{HavePassed}
use Rattle.office_tree.proofs.soundness.are_sound_events.Given as goal

-- the events so far pass
abbrev pub invariant-loop-record_no : goal.invariant-loop-record_no
invariant-loop-record_no l = HavePassed (λ (e : ℕ × Event). is_sound_event l.count l.last e.0 e.1 ≡ true) l.record_no-iterator l.events.entries
