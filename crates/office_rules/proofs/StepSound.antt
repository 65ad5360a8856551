-- A step for any act, with members of their forms, keeps a state sound.
use Rattle.std.proofs.Common.{◌≡◌, ℕ, ℤ, Option, Some, None, refl}
use Rattle.office_days.specs.Limits.{IsDayNumber}
use Rattle.office_base.specs.declared.refusal.Refusal.{Refusal}
use Rattle.office_records.specs.declared.class.Class.{Class}
use Rattle.office_records.specs.declared.schedule.Schedule.{Schedule}
use Rattle.office_rules.specs.Acts.{step}
use Rattle.office_rules.specs.Conditions.{same_record}
use Rattle.office_rules.specs.Forms.{IsWellFormedAct}
use Rattle.office_rules.specs.Meanings.{IsWellFormedNewRecord}
use Rattle.office_rules.specs.NewRecords.{NewRecord, new_record}
use Rattle.office_rules.specs.Runs.{open_run, step_of}
use Rattle.office_rules.specs.Sound.{IsSound}
use Rattle.office_rules.specs.State.{State}
use Rattle.office_rules.specs.Steps.{by_refusal, by_same_record}
use Rattle.office_rules.specs.declared.act.Act.{Act}
use Rattle.office_rules.specs.declared.act.Act.TheVariants as act
use Rattle.office_rules.specs.declared.answer.Answer.{Answer}
use Rattle.office_rules.proofs.SoundEvents.{sound_event}
use Rattle.office_rules.proofs.SoundHeads.{sound_set_record_schedule, sound_reclassify, sound_confirm, sound_review, sound_receipt}
use Rattle.office_rules.proofs.SoundHolds.{sound_place_hold, sound_hold_on, sound_hold_off, sound_lift_hold}
use Rattle.office_rules.proofs.SoundRuns.{sound_open_run}
use Rattle.office_rules.proofs.SoundSchedules.{sound_add_schedule, sound_add_class, sound_set_class_schedule}
use Rattle.office_rules.proofs.SoundSteps.{sound_run_step}
use Rattle.office_rules.proofs.SoundTree.{sound_add_aggregation, sound_close_aggregation, sound_add_record}

-- what holds before an act, and after it where it is accepted, holds after its step
pub kept_by : (P : State → Type 0) (refusal : Option Refusal) (before : State) (answer : Answer) (next : State) → P before → (refusal ≡ None → P next) → P (by_refusal refusal before answer next).1
kept_by P None before answer next old new = new refl
kept_by P (Some refusal) before answer next old new = old

sound_add : (same : Option ℕ) (s : State) (day : ℤ) (new : NewRecord) → IsSound s → IsDayNumber day → IsWellFormedNewRecord new → IsSound (by_same_record same s day new).1
sound_add None s day new sound at formed = kept_by IsSound _ _ _ _ sound (sound_add_record s day new sound at formed)
sound_add (Some r) s day new sound at formed = sound

sound_run : (s : State) (run : Option ℕ) → IsSound s → open_run s.office ≡ run → IsSound (step_of s run)
sound_run s None sound e = sound
sound_run s (Some run) sound e = sound_run_step s run sound e

pub sound_step : (s : State) (a : Act) → IsSound s → IsWellFormedAct a → IsSound (step s a).1
unfolding step
sound_step s (act.AddSchedule day code trigger period offset action) sound formed =
    let schedule : Schedule = record { trigger = trigger; period = period; offset = offset; action = action } in
    kept_by IsSound _ _ _ _ sound (sound_add_schedule s day code schedule sound formed.0 formed.1 formed.2)
sound_step s (act.AddClass day code title schedule) sound formed =
    let class : Class = record { title = title; schedule = schedule } in
    kept_by IsSound _ _ _ _ sound (sound_add_class s day code class sound formed.0 formed.1 (record { title = formed.2; schedule = formed.3 }))
sound_step s (act.SetClassSchedule day class schedule) sound formed = kept_by IsSound _ _ _ _ sound (sound_set_class_schedule s day class schedule sound formed.0 formed.2)
sound_step s (act.AddAggregation day ref_text title parent class) sound formed =
    kept_by IsSound _ _ _ _ sound (sound_add_aggregation s day ref_text title parent class sound formed.0 formed.1 formed.2 formed.3)
sound_step s (act.CloseAggregation day a) sound formed = kept_by IsSound _ _ _ _ sound (sound_close_aggregation s day a sound formed)
sound_step s (act.AddRecord day ref_text title originated aggregation class schedule content) sound formed =
    let new = new_record ref_text title originated aggregation class schedule content in
    sound_add (same_record s.office new) s day new sound formed.0 formed.1
sound_step s (act.SetRecordSchedule day r schedule) sound formed = kept_by IsSound _ _ _ _ sound (sound_set_record_schedule s day r schedule sound formed.0 formed.1)
sound_step s (act.Reclassify day what class) sound formed = kept_by IsSound _ _ _ _ sound (sound_reclassify s day what class sound formed.0 formed.1)
sound_step s (act.Confirm day r named by) sound formed = kept_by IsSound _ _ _ _ sound (sound_confirm s day r named by sound formed.0 formed.1)
sound_step s (act.Review day r schedule by) sound formed = kept_by IsSound _ _ _ _ sound (sound_review s day r schedule by sound formed.0 formed.1 formed.2)
sound_step s (act.Receipt day r digest by) sound formed = kept_by IsSound _ _ _ _ sound (sound_receipt s day r digest by sound formed.0 formed.1)
sound_step s (act.Event day r occurred by) sound formed = kept_by IsSound _ _ _ _ sound (sound_event s day r occurred by sound formed.0 formed.1 formed.2)
sound_step s (act.PlaceHold day code reason by) sound formed = kept_by IsSound _ _ _ _ sound (sound_place_hold s day code reason by sound formed.0 formed.1 formed.2 formed.3)
sound_step s (act.HoldOn day code target) sound formed = kept_by IsSound _ _ _ _ sound (sound_hold_on s day code target sound formed.0 formed.2)
sound_step s (act.HoldOff day code target) sound formed = kept_by IsSound _ _ _ _ sound (sound_hold_off s day code target sound formed.0)
sound_step s (act.LiftHold day code) sound formed = kept_by IsSound _ _ _ _ sound (sound_lift_hold s day code sound formed.0)
sound_step s (act.OpenRun day by) sound formed = kept_by IsSound _ _ _ _ sound (sound_open_run s day by sound formed.0 formed.1)
sound_step s act.RunStep sound formed = kept_by IsSound _ _ _ _ sound (λ accepted. sound_run s (open_run s.office) sound refl)
