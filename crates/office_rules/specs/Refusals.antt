-- Why an act is refused, whichever of the eighteen it is, and which record it asks for again. Source: own.
use Rattle.std.specs.Prelude.{◌≡◌, ℕ, Bool, true, List, Option, Some, None}
use Rattle.office_base.specs.declared.refusal.Refusal.{Refusal}
use Rattle.office_records.specs.Conditions.{first_of}
use Rattle.office_rules.specs.Acts.{step, is_of_change}
use Rattle.office_rules.specs.Conditions.{refusals_of_add_schedule, refusals_of_add_class, refusals_of_set_class_schedule, refusals_of_add_aggregation, refusals_of_close_aggregation, refusals_of_add_record, refusals_of_set_record_schedule, refusals_of_reclassify, refusals_of_place_hold, refusals_of_hold_on, refusals_of_hold_off, refusals_of_lift_hold, refusals_of_confirm, refusals_of_review, refusals_of_open_run, refusals_of_run_step, refusals_of_receipt, refusals_of_event, same_record}
use Rattle.office_rules.specs.NewRecords.{new_record}
use Rattle.office_rules.specs.State.{State, Office}
use Rattle.office_rules.specs.declared.act.Act.{Act}
use Rattle.office_rules.specs.declared.act.Act.TheVariants as act
use Rattle.office_rules.specs.declared.answer.Answer.TheVariants.{Same, Refused}

-- the conditions of an act, each with its refusal, in the order of the refusals' numbers
unfoldable pub refusals_of : Office → Act → List (Refusal × Bool)
refusals_of s (act.AddSchedule day code trigger period offset action) = refusals_of_add_schedule s day code
refusals_of s (act.AddClass day code title schedule) =
    refusals_of_add_class s day code (record { title = title; schedule = schedule })
refusals_of s (act.SetClassSchedule day class schedule) = refusals_of_set_class_schedule s day class schedule
refusals_of s (act.AddAggregation day ref_text title parent class) =
    refusals_of_add_aggregation s day ref_text parent class
refusals_of s (act.CloseAggregation day a) = refusals_of_close_aggregation s day a
refusals_of s (act.AddRecord day ref_text title originated aggregation class schedule content) =
    refusals_of_add_record s day (new_record ref_text title originated aggregation class schedule content)
refusals_of s (act.SetRecordSchedule day r schedule) = refusals_of_set_record_schedule s day r schedule
refusals_of s (act.Reclassify day what class) = refusals_of_reclassify s day what class
refusals_of s (act.Confirm day r named by) = refusals_of_confirm s day r named
refusals_of s (act.Review day r schedule by) = refusals_of_review s day r schedule
refusals_of s (act.Receipt day r digest by) = refusals_of_receipt s day r digest
refusals_of s (act.Event day r occurred by) = refusals_of_event s day r occurred
refusals_of s (act.PlaceHold day code reason by) = refusals_of_place_hold s day code
refusals_of s (act.HoldOn day code target) = refusals_of_hold_on s day code target
refusals_of s (act.HoldOff day code target) = refusals_of_hold_off s day code target
refusals_of s (act.LiftHold day code) = refusals_of_lift_hold s day code
refusals_of s (act.OpenRun day by) = refusals_of_open_run s day
refusals_of s act.RunStep = refusals_of_run_step s

-- the record that an act asks for again, which is there with all that it asks for
abbrev pub asked_again : Office → Act → Option ℕ
asked_again s (act.AddRecord day ref_text title originated aggregation class schedule content) =
    same_record s (new_record ref_text title originated aggregation class schedule content)
asked_again s _ = None

-- what an act is answered: the record that is there already, or the first refusal whose condition holds, both without
-- any change; else it is done
pub record IsAnsweredInOrder (s : State) (a : Act) : Type 0 where
  pub again : (r : ℕ) → asked_again s.office a ≡ Some r → step s a ≡ (Same r, s)
  pub refused : (refusal : Refusal) → asked_again s.office a ≡ None → first_of (refusals_of s.office a) ≡ Some refusal
      → step s a ≡ (Refused refusal, s)
  pub done : asked_again s.office a ≡ None → first_of (refusals_of s.office a) ≡ None → is_of_change (step s a).0 ≡ true
