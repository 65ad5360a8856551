-- Which act a value of JSON asks for, by the members of each of the eighteen kinds, or why it asks for none. Source:
-- own.
use Rattle.std.specs.Prelude.{◌≡◌, ◌⊎◌, ◌∷◌, [], ℕ, ℤ, List, codes, if◌then◌else◌, Option, Some, None, Result, Ok, Err, IsOk, IsSome, MatchResult, option_and_then}
use Rattle.std.specs.Str.{bytes_eq}
use Rattle.serde_json.specs.Data.{Data}
use Rattle.serde_json.specs.Find.{get, as_str}
use Rattle.office_base.specs.declared.refusal.Refusal.{Refusal}
use Rattle.office_base.specs.declared.refusal.Refusal.TheVariants.{BadText}
use Rattle.office_rules.specs.declared.act.Act.{Act}
use Rattle.office_rules.specs.declared.act.Act.TheVariants as act
use Rattle.office_records.specs.declared.target.Target.{Target}
use Rattle.office_json.specs.Contents.{content_part}
use Rattle.office_json.specs.Members.{only}
use Rattle.office_rules.specs.Parts.{both, fault_of, made}
use Rattle.office_json.specs.Parts.{optional, day_part, code_part, text_part, trigger_part, offset_part, action_part, digest_part, number_part, period_part}
use Rattle.office_json.specs.Targets.{classified_part, target_part}
use Rattle.office_json.specs.declared.acts.new_record.RecordFields.{RecordFields}
use Rattle.office_rules.specs.declared.read_fault.ReadFault.{ReadFault}
use Rattle.office_rules.specs.declared.read_fault.ReadFault.TheVariants.{Refused, Memory}

-- ---- one kind of act each, by its members

unfoldable pub add_schedule_parsed : Data → Result Act Refusal
add_schedule_parsed d =
    only
    (codes "act" ∷ codes "day" ∷ codes "code" ∷ codes "trigger" ∷ codes "unit" ∷ codes "count" ∷ codes "offset"
    ∷ codes "action" ∷ []) d
    (made (λ p. act.AddSchedule p.0.0 p.0.1 p.1.0.0 p.1.0.1 p.1.1.0 p.1.1.1)
    (both (both (day_part (get (codes "day") d)) (code_part (get (codes "code") d)))
    (both (both (trigger_part (get (codes "trigger") d)) (period_part (get (codes "unit") d) (get (codes "count") d)))
    (both (offset_part (get (codes "offset") d)) (action_part (get (codes "action") d))))))

unfoldable pub add_class_parsed : Data → Result Act Refusal
add_class_parsed d =
    only (codes "act" ∷ codes "day" ∷ codes "code" ∷ codes "title" ∷ codes "schedule" ∷ []) d
    (made (λ p. act.AddClass p.0.0 p.0.1 p.1.0 p.1.1)
    (both (both (day_part (get (codes "day") d)) (code_part (get (codes "code") d)))
    (both (text_part (get (codes "title") d)) (code_part (get (codes "schedule") d)))))

unfoldable pub set_class_schedule_parsed : Data → Result Act Refusal
set_class_schedule_parsed d =
    only (codes "act" ∷ codes "day" ∷ codes "class" ∷ codes "schedule" ∷ []) d
    (made (λ p. act.SetClassSchedule p.0 p.1.0 p.1.1)
    (both (day_part (get (codes "day") d))
    (both (code_part (get (codes "class") d)) (code_part (get (codes "schedule") d)))))

unfoldable pub add_aggregation_parsed : Data → Result Act Refusal
add_aggregation_parsed d =
    only (codes "act" ∷ codes "day" ∷ codes "ref" ∷ codes "title" ∷ codes "parent" ∷ codes "class" ∷ []) d
    (made (λ p. act.AddAggregation p.0 p.1.0.0 p.1.0.1 p.1.1.0 p.1.1.1)
    (both (day_part (get (codes "day") d))
    (both (both (text_part (get (codes "ref") d)) (text_part (get (codes "title") d)))
    (both (optional number_part (get (codes "parent") d)) (optional code_part (get (codes "class") d))))))

unfoldable pub close_aggregation_parsed : Data → Result Act Refusal
close_aggregation_parsed d =
    only (codes "act" ∷ codes "day" ∷ codes "aggregation" ∷ []) d
    (made (λ p. act.CloseAggregation p.0 p.1)
    (both (day_part (get (codes "day") d)) (number_part (get (codes "aggregation") d))))

-- all of an act that adds a record but the content
abbrev pub record_fields : (ℤ × ℕ) × ((List ℕ × List ℕ) × (ℤ × (Option (List ℕ) × Option (List ℕ)))) → RecordFields
record_fields p = record {
  day = p.0.0;
  aggregation = p.0.1;
  ref_text = p.1.0.0;
  title = p.1.0.1;
  originated = p.1.1.0;
  class = p.1.1.1.0;
  schedule = p.1.1.1.1;
}

unfoldable pub fields_part : Data → Result RecordFields Refusal
fields_part d =
    made record_fields
    (both (both (day_part (get (codes "day") d)) (number_part (get (codes "aggregation") d)))
    (both (both (text_part (get (codes "ref") d)) (text_part (get (codes "title") d)))
    (both (day_part (get (codes "originated") d))
    (both (optional code_part (get (codes "class") d)) (optional code_part (get (codes "schedule") d))))))

-- the act with this content
abbrev pub added : RecordFields × List ℕ → Act
added p =
    act.AddRecord p.0.day p.0.ref_text p.0.title p.0.originated p.0.aggregation p.0.class p.0.schedule p.1

unfoldable pub add_record_parsed : Data → Result Act Refusal
add_record_parsed d =
    only
    (codes "act" ∷ codes "day" ∷ codes "ref" ∷ codes "title" ∷ codes "originated" ∷ codes "aggregation"
    ∷ codes "class" ∷ codes "schedule" ∷ codes "content" ∷ []) d
    (made added (both (fields_part d) (content_part (get (codes "content") d))))

unfoldable pub set_record_schedule_parsed : Data → Result Act Refusal
set_record_schedule_parsed d =
    only (codes "act" ∷ codes "day" ∷ codes "record" ∷ codes "schedule" ∷ []) d
    (made (λ p. act.SetRecordSchedule p.0 p.1.0 p.1.1)
    (both (day_part (get (codes "day") d))
    (both (number_part (get (codes "record") d)) (optional code_part (get (codes "schedule") d)))))

unfoldable pub reclassify_parsed : Data → Result Act Refusal
reclassify_parsed d =
    only (codes "act" ∷ codes "day" ∷ codes "target" ∷ codes "class" ∷ []) d
    (made (λ p. act.Reclassify p.0 p.1.0 p.1.1)
    (both (day_part (get (codes "day") d))
    (both (classified_part (get (codes "target") d)) (optional code_part (get (codes "class") d)))))

unfoldable pub place_hold_parsed : Data → Result Act Refusal
place_hold_parsed d =
    only (codes "act" ∷ codes "day" ∷ codes "code" ∷ codes "reason" ∷ codes "by" ∷ []) d
    (made (λ p. act.PlaceHold p.0.0 p.0.1 p.1.0 p.1.1)
    (both (both (day_part (get (codes "day") d)) (code_part (get (codes "code") d)))
    (both (text_part (get (codes "reason") d)) (text_part (get (codes "by") d)))))

-- what puts a target on a hold, or takes it off: the day, the hold and the target
unfoldable pub hold_target_part : Data → Result (ℤ × (List ℕ × Target)) Refusal
hold_target_part d =
    only (codes "act" ∷ codes "day" ∷ codes "hold" ∷ codes "target" ∷ []) d
    (both (day_part (get (codes "day") d))
    (both (code_part (get (codes "hold") d)) (target_part (get (codes "target") d))))

unfoldable pub hold_on_parsed : Data → Result Act Refusal
hold_on_parsed d = made (λ p. act.HoldOn p.0 p.1.0 p.1.1) (hold_target_part d)

unfoldable pub hold_off_parsed : Data → Result Act Refusal
hold_off_parsed d = made (λ p. act.HoldOff p.0 p.1.0 p.1.1) (hold_target_part d)

unfoldable pub lift_hold_parsed : Data → Result Act Refusal
lift_hold_parsed d =
    only (codes "act" ∷ codes "day" ∷ codes "hold" ∷ []) d
    (made (λ p. act.LiftHold p.0 p.1)
    (both (day_part (get (codes "day") d)) (code_part (get (codes "hold") d))))

unfoldable pub confirm_parsed : Data → Result Act Refusal
confirm_parsed d =
    only (codes "act" ∷ codes "day" ∷ codes "record" ∷ codes "action" ∷ codes "by" ∷ []) d
    (made (λ p. act.Confirm p.0.0 p.0.1 p.1.0 p.1.1)
    (both (both (day_part (get (codes "day") d)) (number_part (get (codes "record") d)))
    (both (action_part (get (codes "action") d)) (text_part (get (codes "by") d)))))

unfoldable pub review_parsed : Data → Result Act Refusal
review_parsed d =
    only (codes "act" ∷ codes "day" ∷ codes "record" ∷ codes "schedule" ∷ codes "by" ∷ []) d
    (made (λ p. act.Review p.0.0 p.0.1 p.1.0 p.1.1)
    (both (both (day_part (get (codes "day") d)) (number_part (get (codes "record") d)))
    (both (optional code_part (get (codes "schedule") d)) (text_part (get (codes "by") d)))))

unfoldable pub receipt_parsed : Data → Result Act Refusal
receipt_parsed d =
    only (codes "act" ∷ codes "day" ∷ codes "record" ∷ codes "digest" ∷ codes "by" ∷ []) d
    (made (λ p. act.Receipt p.0.0 p.0.1 p.1.0 p.1.1)
    (both (both (day_part (get (codes "day") d)) (number_part (get (codes "record") d)))
    (both (digest_part (get (codes "digest") d)) (text_part (get (codes "by") d)))))

unfoldable pub event_parsed : Data → Result Act Refusal
event_parsed d =
    only (codes "act" ∷ codes "day" ∷ codes "record" ∷ codes "occurred" ∷ codes "by" ∷ []) d
    (made (λ p. act.Event p.0.0 p.0.1 p.1.0 p.1.1)
    (both (both (day_part (get (codes "day") d)) (number_part (get (codes "record") d)))
    (both (day_part (get (codes "occurred") d)) (text_part (get (codes "by") d)))))

unfoldable pub open_run_parsed : Data → Result Act Refusal
open_run_parsed d =
    only (codes "act" ∷ codes "day" ∷ codes "by" ∷ []) d
    (made (λ p. act.OpenRun p.0 p.1)
    (both (day_part (get (codes "day") d)) (text_part (get (codes "by") d))))

-- the one act without a day
unfoldable pub run_step_parsed : Data → Result Act Refusal
run_step_parsed d = only (codes "act" ∷ []) d (Ok act.RunStep)

-- ---- all kinds

-- the act of that word, but for a new record
unfoldable pub plain_parsed : List ℕ → Data → Result Act Refusal
plain_parsed word d =
    if bytes_eq word (codes "add-schedule") then add_schedule_parsed d
    else if bytes_eq word (codes "add-class") then add_class_parsed d
    else if bytes_eq word (codes "set-class-schedule") then set_class_schedule_parsed d
    else if bytes_eq word (codes "add-aggregation") then add_aggregation_parsed d
    else if bytes_eq word (codes "close-aggregation") then close_aggregation_parsed d
    else if bytes_eq word (codes "set-record-schedule") then set_record_schedule_parsed d
    else if bytes_eq word (codes "reclassify") then reclassify_parsed d
    else if bytes_eq word (codes "place-hold") then place_hold_parsed d
    else if bytes_eq word (codes "hold-on") then hold_on_parsed d
    else if bytes_eq word (codes "hold-off") then hold_off_parsed d
    else if bytes_eq word (codes "lift-hold") then lift_hold_parsed d
    else if bytes_eq word (codes "confirm") then confirm_parsed d
    else if bytes_eq word (codes "review") then review_parsed d
    else if bytes_eq word (codes "receipt") then receipt_parsed d
    else if bytes_eq word (codes "event") then event_parsed d
    else if bytes_eq word (codes "open-run") then open_run_parsed d
    else if bytes_eq word (codes "run-step") then run_step_parsed d
    else Err BadText

-- the act of that word
abbrev pub word_parsed : Option (List ℕ) → Data → Result Act Refusal
word_parsed None d = Err BadText
word_parsed (Some word) d = if bytes_eq word (codes "add-record") then add_record_parsed d else plain_parsed word d

-- the act that a value asks for, or why it asks for none
unfoldable pub parsed_act : Data → Result Act Refusal
parsed_act d = word_parsed (option_and_then as_str (get (codes "act") d)) d

-- ---- what the code answers

-- what was read is the act of the value, or why nothing was read of it
abbrev pub IsActRead : Result Act Refusal → Result Act ReadFault → Type 0
IsActRead part read = MatchResult read (λ it. part ≡ Ok it) (λ fault. fault ≡ fault_of part)

-- a content is there as a text
abbrev pub HasContent : Data → Type 0
HasContent d = IsSome (option_and_then as_str (get (codes "content") d))

-- why nothing was read: the value asks for no act; or memory ran out for what it asks, or to look at a content
abbrev pub IsReadFault : Data → Result Act Refusal → ReadFault → Type 0
IsReadFault d part (Refused refusal) = part ≡ Err refusal
IsReadFault d part Memory = IsOk part ⊎ HasContent d
