-- One step of the office for each act: the answer, and the state after it. A refused act changes nothing. Source: own.
use Rattle.std.specs.Prelude.{ℕ, suc, Bool, List, length, Option, Some, None, ℤ}
use Rattle.std.specs.Option.{unwrap_or}
use Rattle.office_base.specs.declared.refusal.Refusal.{Refusal}
use Rattle.office_base.specs.declared.refusal.Refusal.TheVariants.{NoRun}
use Rattle.office_records.specs.Conditions.{first_of}
use Rattle.office_records.specs.declared.action.Action.{Action}
use Rattle.office_records.specs.declared.class.Class.{Class}
use Rattle.office_records.specs.declared.classified.Classified.{Classified}
use Rattle.office_records.specs.declared.schedule.Schedule.{Schedule}
use Rattle.office_records.specs.declared.target.Target.{Target}
use Rattle.office_rules.specs.declared.outcome.Outcome.TheVariants.{Skipped}
use Rattle.office_rules.specs.Conditions.{refusals_of_add_schedule, refusals_of_add_class, refusals_of_set_class_schedule, refusals_of_add_aggregation, refusals_of_close_aggregation, refusals_of_add_record, refusals_of_set_record_schedule, refusals_of_reclassify, refusals_of_place_hold, refusals_of_hold_on, refusals_of_hold_off, refusals_of_lift_hold, refusals_of_confirm, refusals_of_review, refusals_of_open_run, refusals_of_run_step, refusals_of_receipt, refusals_of_event, same_record}
use Rattle.office_rules.specs.Disposing.{outcome_of}
use Rattle.office_rules.specs.Effects.{after_add_schedule, after_add_class, after_set_class_schedule, after_add_aggregation, after_close_aggregation, with_new_record, after_set_record_schedule, after_reclassify, after_place_hold, after_hold_on, after_hold_off, after_lift_hold, after_confirm, after_review, after_open_run, after_receipt, after_event}
use Rattle.office_rules.specs.NewRecords.{NewRecord}
use Rattle.office_rules.specs.Runs.{open_run, next_ready, step_of}
use Rattle.office_rules.specs.State.{State, Office, with_office}
use Rattle.office_rules.specs.declared.answer.Answer.{Answer}
use Rattle.office_rules.specs.declared.answer.Answer.TheVariants.{Done, Number, Same, Step, RunClosed, Refused}

abbrev pub by_refusal : Option Refusal → State → Answer → State → Answer × State
by_refusal (Some refusal) before answer next = (Refused refusal, before)
by_refusal None before answer next = (answer, next)

-- the refusal of the first condition that holds, and then the state stays; else the answer and the next state
abbrev pub stepped : List (Refusal × Bool) → State → Answer → State → Answer × State
stepped conditions before answer next = by_refusal (first_of conditions) before answer next

abbrev pub step_add_schedule : State → ℤ → List ℕ → Schedule → Answer × State
step_add_schedule s day code schedule =
    stepped (refusals_of_add_schedule s.office day code) s Done
    (with_office s (after_add_schedule s.office day code schedule))

abbrev pub step_add_class : State → ℤ → List ℕ → Class → Answer × State
step_add_class s day code class =
    stepped (refusals_of_add_class s.office day code class) s Done
    (with_office s (after_add_class s.office day code class))

abbrev pub step_set_class_schedule : State → ℤ → List ℕ → List ℕ → Answer × State
step_set_class_schedule s day class schedule =
    stepped (refusals_of_set_class_schedule s.office day class schedule) s Done
    (with_office s (after_set_class_schedule s.office day class schedule))

-- answered by the new aggregation's number
abbrev pub step_add_aggregation : State → ℤ → List ℕ → List ℕ → Option ℕ → Option (List ℕ) → Answer × State
step_add_aggregation s day ref_text title parent class =
    stepped (refusals_of_add_aggregation s.office day ref_text parent class) s
    (Number (suc (length s.office.tree.aggregations)))
    (with_office s (after_add_aggregation s.office day ref_text title parent class))

abbrev pub step_close_aggregation : State → ℤ → ℕ → Answer × State
step_close_aggregation s day a =
    stepped (refusals_of_close_aggregation s.office day a) s Done
    (with_office s (after_close_aggregation s.office day a))

abbrev pub by_same_record : Option ℕ → State → ℤ → NewRecord → Answer × State
by_same_record (Some r) s day new = (Same r, s)
by_same_record None s day new =
    stepped (refusals_of_add_record s.office day new) s (Number (suc (length s.office.tree.records)))
    (with_new_record s day new)

-- the number of the same record, which is reported before all refusals and changes nothing; else the new record's
-- number
abbrev pub step_add_record : State → ℤ → NewRecord → Answer × State
step_add_record s day new = by_same_record (same_record s.office new) s day new

abbrev pub step_set_record_schedule : State → ℤ → ℕ → Option (List ℕ) → Answer × State
step_set_record_schedule s day r schedule = stepped (refusals_of_set_record_schedule s.office day r schedule) s Done (with_office s (after_set_record_schedule s.office day r schedule))

abbrev pub step_reclassify : State → ℤ → Classified → Option (List ℕ) → Answer × State
step_reclassify s day what class =
    stepped (refusals_of_reclassify s.office day what class) s Done
    (with_office s (after_reclassify s.office day what class))

abbrev pub step_place_hold : State → ℤ → List ℕ → List ℕ → List ℕ → Answer × State
step_place_hold s day code reason by =
    stepped (refusals_of_place_hold s.office day code) s Done
    (with_office s (after_place_hold s.office day code reason by))

abbrev pub step_hold_on : State → ℤ → List ℕ → Target → Answer × State
step_hold_on s day code target =
    stepped (refusals_of_hold_on s.office day code target) s Done
    (with_office s (after_hold_on s.office day code target))

abbrev pub step_hold_off : State → ℤ → List ℕ → Target → Answer × State
step_hold_off s day code target =
    stepped (refusals_of_hold_off s.office day code target) s Done
    (with_office s (after_hold_off s.office day code target))

abbrev pub step_lift_hold : State → ℤ → List ℕ → Answer × State
step_lift_hold s day code =
    stepped (refusals_of_lift_hold s.office day code) s Done (with_office s (after_lift_hold s.office day code))

abbrev pub step_confirm : State → ℤ → ℕ → Action → List ℕ → Answer × State
step_confirm s day r named by =
    stepped (refusals_of_confirm s.office day r named) s Done (with_office s (after_confirm s.office day r named by))

abbrev pub step_review : State → ℤ → ℕ → Option (List ℕ) → List ℕ → Answer × State
step_review s day r schedule by =
    stepped (refusals_of_review s.office day r schedule) s Done
    (with_office s (after_review s.office day r schedule by))

-- answered by the new run's number
abbrev pub step_open_run : State → ℤ → List ℕ → Answer × State
step_open_run s day by =
    stepped (refusals_of_open_run s.office day) s (Number (suc (length s.office.runs)))
    (with_office s (after_open_run s.office day by))

-- the record that a step takes and what comes of it, or the certificate's number
abbrev pub answer_at : Office → ℕ → Option ℕ → Answer
answer_at s run None = RunClosed run
answer_at s run (Some r) = Step r (unwrap_or (outcome_of s r) Skipped)

abbrev pub answer_in : Office → Option ℕ → Answer
answer_in s None = Refused NoRun
answer_in s (Some run) = answer_at s run (next_ready s run)

abbrev pub step_run_step : State → Answer × State
step_run_step s =
    stepped (refusals_of_run_step s.office) s (answer_in s.office (open_run s.office)) (step_of s (open_run s.office))

abbrev pub step_receipt : State → ℤ → ℕ → List ℕ → List ℕ → Answer × State
step_receipt s day r digest by =
    stepped (refusals_of_receipt s.office day r digest) s Done (with_office s (after_receipt s.office day r by))

abbrev pub step_event : State → ℤ → ℕ → ℤ → List ℕ → Answer × State
step_event s day r occurred by =
    stepped (refusals_of_event s.office day r occurred) s Done (with_office s (after_event s.office day r occurred by))
