-- A record that is held before an act that takes nothing off a hold and lifts none is held after its step.
use Rattle.std.proofs.Common.{◌≡◌, ℕ, ℤ, false, Option, Some, None}
use Rattle.office_base.specs.declared.refusal.Refusal.{Refusal}
use Rattle.office_rules.specs.HoldConditions.{conditions_of_place_hold}
use Rattle.office_rules.proofs.LastingHolds.{held-add_schedule, held-add_class, held-set_class_schedule, held-add_aggregation, held-close_aggregation, held-add_record, held-set_record_schedule, held-confirm, held-receipt, held-review, held-place_hold, held-hold_on}
use Rattle.office_rules.proofs.ReclassifiedHolds.{held-reclassify}
use Rattle.office_records.specs.declared.class.Class.{Class}
use Rattle.office_records.specs.declared.schedule.Schedule.{Schedule}
use Rattle.office_rules.specs.Acts.{may_release, step}
use Rattle.office_rules.specs.Conditions.{same_record}
use Rattle.office_rules.specs.Effects.{new_head}
use Rattle.office_rules.specs.Meanings.{IsHeldIn}
use Rattle.office_rules.specs.NewRecords.{NewRecord, new_record}
use Rattle.office_rules.specs.Runs.{open_run, step_of}
use Rattle.office_rules.specs.Sound.{IsSound}
use Rattle.office_rules.specs.State.{State}
use Rattle.office_rules.specs.Steps.{by_refusal, by_same_record}
use Rattle.office_rules.specs.declared.act.Act.{Act}
use Rattle.office_rules.specs.declared.act.Act.TheVariants as act
use Rattle.office_rules.specs.declared.answer.Answer.{Answer}
use Rattle.office_rules.proofs.Accepted.{tree_sound, dated_accepted, accepted_by_tree, leaves_none}
use Rattle.office_rules.proofs.HeldSteps.{held-run_step}
use Rattle.office_rules.proofs.StepSound.{kept_by}

kept : (held : ℕ) (refusal : Option Refusal) (before : State) (answer : Answer) (next : State) → IsHeldIn before.office held → (refusal ≡ None → IsHeldIn next.office held) → IsHeldIn (by_refusal refusal before answer next).1.office held
kept held refusal before answer next h = kept_by (λ t. IsHeldIn t.office held) refusal before answer next h

kept_add : (same : Option ℕ) (s : State) (day : ℤ) (new : NewRecord) (held : ℕ) → IsHeldIn s.office held → IsHeldIn (by_same_record same s day new).1.office held
kept_add None s day new held h = kept held _ _ _ _ h (λ _. held-add_record s.office.holds s.office.tree (new_head day new) held h)
kept_add (Some r) s day new held h = h

kept_run : (s : State) (run : Option ℕ) (held : ℕ) → IsHeldIn s.office held → IsHeldIn (step_of s run).office held
kept_run s None held h = h
kept_run s (Some run) held h = held-run_step s run held h

pub kept_step : (s : State) (a : Act) (held : ℕ) → IsSound s → may_release a ≡ false → IsHeldIn s.office held → IsHeldIn (step s a).1.office held
unfolding step
kept_step s (act.AddSchedule day code trigger period offset action) held sound keeps h =
    let schedule : Schedule = record { trigger = trigger; period = period; offset = offset; action = action } in
    kept held _ _ _ _ h (λ _. held-add_schedule s.office.holds s.office.tree code schedule held h)
kept_step s (act.AddClass day code title schedule) held sound keeps h =
    let class : Class = record { title = title; schedule = schedule } in
    kept held _ _ _ _ h (λ _. held-add_class s.office.holds s.office.tree code class held h)
kept_step s (act.SetClassSchedule day class schedule) held sound keeps h = kept held _ _ _ _ h (λ _. held-set_class_schedule s.office.holds s.office.tree class schedule held h)
kept_step s (act.AddAggregation day ref_text title parent class) held sound keeps h =
    kept held _ _ _ _ h (λ _. held-add_aggregation s.office.holds s.office.tree ref_text title parent class held (tree_sound s sound) h)
kept_step s (act.CloseAggregation day a) held sound keeps h = kept held _ _ _ _ h (λ _. held-close_aggregation s.office.holds s.office.tree a day held h)
kept_step s (act.AddRecord day ref_text title originated aggregation class schedule content) held sound keeps h =
    let new = new_record ref_text title originated aggregation class schedule content in
    kept_add (same_record s.office new) s day new held h
kept_step s (act.SetRecordSchedule day r schedule) held sound keeps h = kept held _ _ _ _ h (λ _. held-set_record_schedule s.office.holds s.office.tree r schedule held h)
kept_step s (act.Reclassify day what class) held sound keeps h =
    kept held _ _ _ _ h (λ accepted. held-reclassify s.office.holds s.office.tree what class held (tree_sound s sound) (accepted_by_tree s.office day what class accepted) (leaves_none s.office day what class accepted) h)
kept_step s (act.Confirm day r named by) held sound keeps h = kept held _ _ _ _ h (λ _. held-confirm s.office.holds s.office.tree day r named by held h)
kept_step s (act.Review day r schedule by) held sound keeps h = kept held _ _ _ _ h (λ _. held-review s.office.holds s.office.tree day r schedule by held h)
kept_step s (act.Receipt day r digest by) held sound keeps h = kept held _ _ _ _ h (λ _. held-receipt s.office.holds s.office.tree day r by held h)
kept_step s (act.Event day r occurred by) held sound keeps h = kept held _ _ _ _ h (λ _. h)
kept_step s (act.PlaceHold day code reason by) held sound keeps h =
    kept held _ _ _ _ h (λ accepted. held-place_hold s.office.holds s.office.tree day code reason by held (dated_accepted s.office day (conditions_of_place_hold s.office.holds code) accepted).1 h)
kept_step s (act.HoldOn day code target) held sound keeps h = kept held _ _ _ _ h (λ _. held-hold_on s.office.holds s.office.tree code target held h)
kept_step s (act.HoldOff day code target) held sound keeps h = absurd cc
kept_step s (act.LiftHold day code) held sound keeps h = absurd cc
kept_step s (act.OpenRun day by) held sound keeps h = kept held _ _ _ _ h (λ _. h)
kept_step s act.RunStep held sound keeps h = kept held _ _ _ _ h (λ _. kept_run s (open_run s.office) held h)
