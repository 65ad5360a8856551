-- What is right of the change by which an event of a record is recorded.
use Rattle.std.proofs.Common.{◌≡◌, ℕ, true, List, ◌∷◌, None, ℤ, refl}
use Rattle.office_records.specs.Conditions.{first_of, conditions_of_event}
use Rattle.office_records.specs.Effects.{with_event}
use Rattle.office_records.specs.Tree.{TreeState, has_record}
use Rattle.office_records.specs.declared.event.Event.{Event}
use Rattle.office_records.proofs.Accepting.{none_holds, not_false}
use Rattle.office_rules.specs.Acts.{IsChangeTo}
use Rattle.office_rules.specs.Conditions.{refusals_of_event}
use Rattle.office_rules.specs.State.{Office, with_contents}
use Rattle.office_rules.specs.Steps.{step_event}
use Rattle.office_rules.specs.declared.answer.Answer.TheVariants.{Done}
use Rattle.office_rules.specs.declared.change.Change.{Change}
use Rattle.office_rules.specs.declared.rows.RowWrite.TheVariants as row_write
use Rattle.office_rules.proofs.Accepted.{dated_accepted}
use Rattle.office_machine.specs.DayWrites.{day_writes}
use Rattle.office_machine.proofs.DecidedTree.{put_change}

-- a record of which an event may be recorded is there
record_to_event : (t : TreeState) (day : ℤ) (r : ℕ) (occurred : ℤ) → first_of (conditions_of_event t day r occurred) ≡ None → has_record t r ≡ true
record_to_event t day r occurred accepted = not_false (has_record t r) (none_holds (conditions_of_event t day r occurred) accepted).0

-- the event of such an act
abbrev pub new_event : ℤ → ℤ → List ℕ → Event
new_event day occurred by = record { occurred = occurred; day = day; by = by }

pub event_change : (s : Office) (day : ℤ) (r : ℕ) (occurred : ℤ) (by : List ℕ) (change : Change) → first_of (refusals_of_event s day r occurred) ≡ None → Done ≡ change.answer
    → change.writes.items ≡ row_write.Event r (new_event day occurred by) ∷ day_writes s day → IsChangeTo s (λ contents. step_event (with_contents s contents) day r occurred by) change
event_change s day r occurred by change accepted same writes =
    put_change s day (conditions_of_event s.tree day r occurred) Done (with_event s.tree day r occurred by) (row_write.Event r (new_event day occurred by)) change accepted same refl writes
    (record_to_event s.tree day r occurred (dated_accepted s day (conditions_of_event s.tree day r occurred) accepted).1) (λ contents. refl)
