-- One step of the office for an act, and what a decision on it is. Source: own.
use Rattle.std.specs.Prelude.{◌≡◌, ◌≤◌, ℕ, Bool, true, false, List, [], ◌∷◌, length, zero, suc}
use Rattle.office_rules.specs.Meanings.{IsHeldIn}
use Rattle.office_rules.specs.NewRecords.{new_record}
use Rattle.office_rules.specs.Sound.{IsSoundOffice}
use Rattle.office_rules.specs.State.{State, Office, ByteMap, with_contents}
use Rattle.office_rules.specs.Steps.{step_add_schedule, step_add_class, step_set_class_schedule, step_add_aggregation, step_close_aggregation, step_add_record, step_set_record_schedule, step_reclassify, step_place_hold, step_hold_on, step_hold_off, step_lift_hold, step_confirm, step_review, step_open_run, step_run_step, step_receipt, step_event}
use Rattle.office_rules.specs.Writes.{all_writes, all_office_writes, CanWrite}
use Rattle.office_rules.specs.declared.act.Act.{Act}
use Rattle.office_rules.specs.declared.act.Act.TheVariants as act
use Rattle.office_rules.specs.declared.answer.Answer.{Answer}
use Rattle.office_rules.specs.declared.answer.Answer.TheVariants as answer
use Rattle.office_rules.specs.declared.change.Change.{Change}
use Rattle.office_rules.specs.declared.change.Decision.{Decision}
use Rattle.office_rules.specs.declared.change.Decision.TheVariants as decision
use Rattle.office_rules.specs.declared.rows.RowWrite.{RowWrite}

-- the answer to an act, and the state after it
unfoldable pub step : State → Act → Answer × State
step s (act.AddSchedule day code trigger period offset action) =
    step_add_schedule s day code (record { trigger = trigger; period = period; offset = offset; action = action })
step s (act.AddClass day code title schedule) =
    step_add_class s day code (record { title = title; schedule = schedule })
step s (act.SetClassSchedule day class schedule) = step_set_class_schedule s day class schedule
step s (act.AddAggregation day ref_text title parent class) = step_add_aggregation s day ref_text title parent class
step s (act.CloseAggregation day a) = step_close_aggregation s day a
step s (act.AddRecord day ref_text title originated aggregation class schedule content) =
    step_add_record s day (new_record ref_text title originated aggregation class schedule content)
step s (act.SetRecordSchedule day r schedule) = step_set_record_schedule s day r schedule
step s (act.Reclassify day what class) = step_reclassify s day what class
step s (act.Confirm day r named by) = step_confirm s day r named by
step s (act.Review day r schedule by) = step_review s day r schedule by
step s (act.Receipt day r digest by) = step_receipt s day r digest by
step s (act.Event day r occurred by) = step_event s day r occurred by
step s (act.PlaceHold day code reason by) = step_place_hold s day code reason by
step s (act.HoldOn day code target) = step_hold_on s day code target
step s (act.HoldOff day code target) = step_hold_off s day code target
step s (act.LiftHold day code) = step_lift_hold s day code
step s (act.OpenRun day by) = step_open_run s day by
step s act.RunStep = step_run_step s

-- the state after acts, one after another
abbrev pub after : State → List Act → State
after s [] = s
after s (a ∷ rest) = after (step s a).1 rest

-- their answers
abbrev pub answers : State → List Act → List Answer
answers s [] = []
answers s (a ∷ rest) = (step s a).0 ∷ answers (step s a).1 rest

-- an answer that reports of what was changed: no refusal, and not that a record was added before
abbrev pub is_of_change : Answer → Bool
is_of_change answer.Done = true
is_of_change (answer.Number n) = true
is_of_change (answer.Same r) = false
is_of_change (answer.Step r outcome) = true
is_of_change (answer.RunClosed run) = true
is_of_change (answer.Refused refusal) = false

-- a change that is right where each contents lead to such an answer and next state: its answer, at most six writes that
-- can be done, and what they lead to
pub record IsChangeTo (s : Office) (next : ByteMap → Answer × State) (change : Change) : Type 0 where
  pub answered : (contents : ByteMap) → (next contents).0 ≡ change.answer
  pub changes : is_of_change change.answer ≡ true
  pub few : length change.writes.items ≤ 6
  pub fits : CanWrite s change.writes.items
  pub leads : (contents : ByteMap) → all_writes change.writes.items (with_contents s contents) ≡ (next contents).1

-- where a decision leads: where nothing is to be done the answer leaves the state, else it is a change that is right
abbrev pub LeadsTo : Office → (ByteMap → Answer × State) → Decision → Type 0
LeadsTo s next (decision.Stay answer) = (contents : ByteMap) → next contents ≡ (answer, with_contents s contents)
LeadsTo s next (decision.Go change) = IsChangeTo s next change

-- a decision's answer is that of a change exactly where it is one: where nothing is to be done it is a refusal, or that
-- the record was added before
abbrev pub ReportsItsKind : Decision → Type 0
ReportsItsKind (decision.Stay answer) = is_of_change answer ≡ false
ReportsItsKind (decision.Go change) = is_of_change change.answer ≡ true

-- a decision that is right: it leads there, and its answer is that of a change exactly where it is one
abbrev pub IsDecidedTo : Office → (ByteMap → Answer × State) → Decision → Type 0
IsDecidedTo s next d = LeadsTo s next d × ReportsItsKind d

-- a decision to do these writes, with that answer
abbrev pub IsGoing : Answer → List RowWrite → Decision → Type 0
IsGoing answer writes (decision.Stay reported) = ⊥
IsGoing answer writes (decision.Go change) = (change.answer ≡ answer) × (change.writes.items ≡ writes)

-- a decision leads where an act does: to that one's step, whatever the contents
abbrev pub IsDecidedFor : Office → Act → Decision → Type 0
IsDecidedFor s a d = LeadsTo s (λ contents. step (with_contents s contents) a) d

-- a change that can be made in an office: its writes can be done, and they lead to a sound office
unfoldable pub CanBeMade : Office → Change → Type 0
CanBeMade s change = CanWrite s change.writes.items × IsSoundOffice (all_office_writes change.writes.items s)

-- what is decided can be made
abbrev pub IsFeasible : Office → Decision → Type 0
IsFeasible s (decision.Stay answer) = Unit {0}
IsFeasible s (decision.Go change) = CanBeMade s change

-- an act that may let a record out of a hold
abbrev pub may_release : Act → Bool
may_release (act.HoldOff day code target) = true
may_release (act.LiftHold day code) = true
may_release _ = false

-- every record that is held is held after what is decided
abbrev pub KeepsHeld : Office → Decision → Type 0
KeepsHeld s (decision.Stay answer) = Unit {0}
KeepsHeld s (decision.Go change) = (r : ℕ) → IsHeldIn s r → IsHeldIn (all_office_writes change.writes.items s) r

-- so many steps of a run, each decided and made, lead from one office to another
abbrev pub AreStepsMade : ℕ → Office → Office → Type 0
AreStepsMade zero s t = s ≡ t
AreStepsMade (suc n) s t =
    (change : Change) × IsDecidedFor s act.RunStep (decision.Go change)
    × AreStepsMade n (all_office_writes change.writes.items s) t

-- an act on schedules and classes
abbrev pub IsOnSchedules : Act → Type 0
IsOnSchedules (act.AddSchedule day code trigger period offset action) = Unit {0}
IsOnSchedules (act.AddClass day code title schedule) = Unit {0}
IsOnSchedules (act.SetClassSchedule day class schedule) = Unit {0}
IsOnSchedules _ = ⊥

-- an act on aggregations, or on an own class of one or of a record
abbrev pub IsOnAggregations : Act → Type 0
IsOnAggregations (act.AddAggregation day ref_text title parent class) = Unit {0}
IsOnAggregations (act.CloseAggregation day a) = Unit {0}
IsOnAggregations (act.Reclassify day what class) = Unit {0}
IsOnAggregations _ = ⊥

-- an act that adds a record
abbrev pub IsOnNewRecord : Act → Type 0
IsOnNewRecord (act.AddRecord day ref_text title originated aggregation class schedule content) = Unit {0}
IsOnNewRecord _ = ⊥

-- an act on a record's own schedule, confirmation, review, receipt or event
abbrev pub IsOnRecords : Act → Type 0
IsOnRecords (act.SetRecordSchedule day r schedule) = Unit {0}
IsOnRecords (act.Confirm day r named by) = Unit {0}
IsOnRecords (act.Review day r schedule by) = Unit {0}
IsOnRecords (act.Receipt day r digest by) = Unit {0}
IsOnRecords (act.Event day r occurred by) = Unit {0}
IsOnRecords _ = ⊥

-- an act on holds
abbrev pub IsOnHolds : Act → Type 0
IsOnHolds (act.PlaceHold day code reason by) = Unit {0}
IsOnHolds (act.HoldOn day code target) = Unit {0}
IsOnHolds (act.HoldOff day code target) = Unit {0}
IsOnHolds (act.LiftHold day code) = Unit {0}
IsOnHolds _ = ⊥

-- an act on runs
abbrev pub IsOnRuns : Act → Type 0
IsOnRuns (act.OpenRun day by) = Unit {0}
IsOnRuns act.RunStep = Unit {0}
IsOnRuns _ = ⊥
