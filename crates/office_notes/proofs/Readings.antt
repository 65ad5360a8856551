-- The JSON of an act is read as the act, kind by kind.
use Rattle.std.proofs.Common.{◌≡◌, refl, Result, Ok}
use Rattle.serde_json.proofs.OnLiterals.{serde_json_on_literals}
use Rattle.office_base.specs.declared.refusal.Refusal.{Refusal}
use Rattle.office_json.specs.Acts.{add_aggregation_parsed, add_class_parsed, add_record_parsed, add_schedule_parsed, added, close_aggregation_parsed, confirm_parsed, event_parsed, fields_part, hold_off_parsed, hold_on_parsed, hold_target_part, lift_hold_parsed, open_run_parsed, parsed_act, place_hold_parsed, plain_parsed, receipt_parsed, reclassify_parsed, record_fields, review_parsed, run_step_parsed, set_class_schedule_parsed, set_record_schedule_parsed}
use Rattle.office_json.specs.Members.{has_only}
use Rattle.office_notes.specs.Acts.{whole}
use Rattle.office_notes.specs.Laws.{IsReadable}
use Rattle.office_notes.proofs.MembersBack.{action_back, classified_back, code_back, code_or_null_back, content_back, day_back, digest_back, number_back, number_or_null_back, offset_back, period_back, target_back, text_back, trigger_back}
use Rattle.office_rules.specs.Parts.{both, made}
use Rattle.office_rules.specs.declared.act.Act.{Act}
use Rattle.office_rules.specs.declared.act.Act.TheVariants as act

made_of : {A B : Type 0} (f : A → B) (part : Result A Refusal) (p : A) → part ≡ Ok p → made f part ≡ Ok (f p)
made_of f part p h = rw h refl

both_of : {A B : Type 0} (x : Result A Refusal) (y : Result B Refusal) (a : A) (b : B) → x ≡ Ok a → y ≡ Ok b → both x y ≡ Ok (a, b)
both_of x y a b h k = rw (h, k) refl

pub read_back : (a : Act) → IsReadable a → parsed_act (whole a) ≡ Ok a
unfolding serde_json_on_literals parsed_act plain_parsed has_only add_aggregation_parsed add_class_parsed add_record_parsed add_schedule_parsed close_aggregation_parsed confirm_parsed event_parsed fields_part hold_off_parsed hold_on_parsed hold_target_part lift_hold_parsed open_run_parsed place_hold_parsed receipt_parsed reclassify_parsed review_parsed run_step_parsed set_class_schedule_parsed set_record_schedule_parsed
read_back (act.AddSchedule day code trigger period offset action) h =
    made_of (λ p. act.AddSchedule p.0.0 p.0.1 p.1.0.0 p.1.0.1 p.1.1.0 p.1.1.1) _ _
    (both_of _ _ _ _ (both_of _ _ _ _ (day_back day h.formed.0) (code_back code h.formed.1))
    (both_of _ _ _ _ (both_of _ _ _ _ (trigger_back trigger) (period_back period h.formed.2)) (both_of _ _ _ _ (offset_back offset) (action_back action))))
read_back (act.AddClass day code title schedule) h =
    made_of (λ p. act.AddClass p.0.0 p.0.1 p.1.0 p.1.1) _ _
    (both_of _ _ _ _ (both_of _ _ _ _ (day_back day h.formed.0) (code_back code h.formed.1)) (both_of _ _ _ _ (text_back title h.formed.2) (code_back schedule h.formed.3)))
read_back (act.SetClassSchedule day class schedule) h =
    made_of (λ p. act.SetClassSchedule p.0 p.1.0 p.1.1) _ _
    (both_of _ _ _ _ (day_back day h.formed.0) (both_of _ _ _ _ (code_back class h.formed.1) (code_back schedule h.formed.2)))
read_back (act.AddAggregation day ref_text title parent class) h =
    made_of (λ p. act.AddAggregation p.0 p.1.0.0 p.1.0.1 p.1.1.0 p.1.1.1) _ _
    (both_of _ _ _ _ (day_back day h.formed.0)
    (both_of _ _ _ _ (both_of _ _ _ _ (text_back ref_text h.formed.1) (text_back title h.formed.2))
    (both_of _ _ _ _ (number_or_null_back parent h.numbers) (code_or_null_back class h.formed.3))))
read_back (act.CloseAggregation day aggregation) h =
    made_of (λ p. act.CloseAggregation p.0 p.1) _ _ (both_of _ _ _ _ (day_back day h.formed) (number_back aggregation h.numbers.0))
read_back (act.AddRecord day ref_text title originated aggregation class schedule content) h =
    let it = h.formed.1 in
    made_of added _ _
    (both_of _ _ _ _
    (made_of record_fields _ _
    (both_of _ _ _ _ (both_of _ _ _ _ (day_back day h.formed.0) (number_back aggregation h.numbers.0))
    (both_of _ _ _ _ (both_of _ _ _ _ (text_back ref_text it.ref_text) (text_back title it.title))
    (both_of _ _ _ _ (day_back originated it.originated)
    (both_of _ _ _ _ (code_or_null_back class it.class) (code_or_null_back schedule it.schedule))))))
    (content_back content h.bytes it.content_few))
read_back (act.SetRecordSchedule day record_no schedule) h =
    made_of (λ p. act.SetRecordSchedule p.0 p.1.0 p.1.1) _ _
    (both_of _ _ _ _ (day_back day h.formed.0) (both_of _ _ _ _ (number_back record_no h.numbers.0) (code_or_null_back schedule h.formed.1)))
read_back (act.Reclassify day what class) h =
    made_of (λ p. act.Reclassify p.0 p.1.0 p.1.1) _ _
    (both_of _ _ _ _ (day_back day h.formed.0) (both_of _ _ _ _ (classified_back what h.numbers) (code_or_null_back class h.formed.1)))
read_back (act.PlaceHold day code reason by) h =
    made_of (λ p. act.PlaceHold p.0.0 p.0.1 p.1.0 p.1.1) _ _
    (both_of _ _ _ _ (both_of _ _ _ _ (day_back day h.formed.0) (code_back code h.formed.1)) (both_of _ _ _ _ (text_back reason h.formed.2) (text_back by h.formed.3)))
read_back (act.HoldOn day hold what) h =
    made_of (λ p. act.HoldOn p.0 p.1.0 p.1.1) _ _
    (both_of _ _ _ _ (day_back day h.formed.0) (both_of _ _ _ _ (code_back hold h.formed.1) (target_back what h.formed.2 h.numbers)))
read_back (act.HoldOff day hold what) h =
    made_of (λ p. act.HoldOff p.0 p.1.0 p.1.1) _ _
    (both_of _ _ _ _ (day_back day h.formed.0) (both_of _ _ _ _ (code_back hold h.formed.1) (target_back what h.formed.2 h.numbers)))
read_back (act.LiftHold day hold) h =
    made_of (λ p. act.LiftHold p.0 p.1) _ _ (both_of _ _ _ _ (day_back day h.formed.0) (code_back hold h.formed.1))
read_back (act.Confirm day record_no action by) h =
    made_of (λ p. act.Confirm p.0.0 p.0.1 p.1.0 p.1.1) _ _
    (both_of _ _ _ _ (both_of _ _ _ _ (day_back day h.formed.0) (number_back record_no h.numbers.0)) (both_of _ _ _ _ (action_back action) (text_back by h.formed.1)))
read_back (act.Review day record_no schedule by) h =
    made_of (λ p. act.Review p.0.0 p.0.1 p.1.0 p.1.1) _ _
    (both_of _ _ _ _ (both_of _ _ _ _ (day_back day h.formed.0) (number_back record_no h.numbers.0))
    (both_of _ _ _ _ (code_or_null_back schedule h.formed.1) (text_back by h.formed.2)))
read_back (act.Receipt day record_no digest by) h =
    made_of (λ p. act.Receipt p.0.0 p.0.1 p.1.0 p.1.1) _ _
    (both_of _ _ _ _ (both_of _ _ _ _ (day_back day h.formed.0) (number_back record_no h.numbers.0)) (both_of _ _ _ _ (digest_back digest h.bytes) (text_back by h.formed.1)))
read_back (act.Event day record_no occurred by) h =
    made_of (λ p. act.Event p.0.0 p.0.1 p.1.0 p.1.1) _ _
    (both_of _ _ _ _ (both_of _ _ _ _ (day_back day h.formed.0) (number_back record_no h.numbers.0)) (both_of _ _ _ _ (day_back occurred h.formed.1) (text_back by h.formed.2)))
read_back (act.OpenRun day by) h =
    made_of (λ p. act.OpenRun p.0 p.1) _ _ (both_of _ _ _ _ (day_back day h.formed.0) (text_back by h.formed.1))
read_back act.RunStep h = refl
