-- The acts in JSON: as an act is read, and as a line of the journal notes it, which has the length and the SHA-256 of a
-- content in place of the content. The members are those of docs/ACTS.md. Source: own.
use Rattle.std.specs.Prelude.{ℕ, ℤ, List, [], ◌∷◌, ◌++◌, codes, decimal, length, map}
use Rattle.base64.specs.Engines.{standard}
use Rattle.base64.specs.GeneralPurpose.{encode_of}
use Rattle.hex.specs.Hex.{encode_lower}
use Rattle.serde_json.specs.Data.{Data, array, number, string, unsigned}
use Rattle.serde_json.specs.View.{items_of}
use Rattle.sha2.specs.Sha256.{sha256}
use Rattle.office_days.specs.Words.{offset_word, unit_word}
use Rattle.office_json.specs.RecordJson.{day_data, or_null}
use Rattle.office_notes.specs.Objects.{object_with}
use Rattle.office_records.specs.Words.{action_word, trigger_word}
use Rattle.office_records.specs.declared.classified.Classified.{Classified}
use Rattle.office_records.specs.declared.classified.Classified.TheVariants as classified
use Rattle.office_records.specs.declared.target.Target.{Target}
use Rattle.office_records.specs.declared.target.Target.TheVariants as target
use Rattle.office_rules.specs.declared.act.Act.{Act}
use Rattle.office_rules.specs.declared.act.Act.TheVariants as act

-- ---- the values of members

abbrev pub count_data : ℕ → Data
count_data n = number (unsigned n)

-- what has a class, by its kind and its number
abbrev pub classified_text : Classified → List ℕ
classified_text (classified.Aggregation n) = codes "aggregation:" ++ decimal n
classified_text (classified.Record n) = codes "record:" ++ decimal n

-- a target, by its kind and its code or its number
abbrev pub target_text : Target → List ℕ
target_text (target.Class code) = codes "class:" ++ code
target_text (target.Aggregation n) = codes "aggregation:" ++ decimal n
target_text (target.Record n) = codes "record:" ++ decimal n

-- a content, as an act has it
abbrev pub content_data : List ℕ → Data
content_data content = string (encode_of standard content)

-- a content, as the journal has it
abbrev pub content_note : List ℕ → Data
content_note content = object_with
    ((codes "bytes", count_data (length content)) ∷ (codes "sha256", string (encode_lower (sha256 content))) ∷ [])

-- ---- the eighteen kinds

-- the members of an act of that kind and day
abbrev pub dated : List ℕ → ℤ → List (List ℕ × Data) → List (List ℕ × Data)
dated kind day rest = (codes "act", string kind) ∷ (codes "day", day_data day) ∷ rest

-- the members of an act, whose content, if it has one, is written like this
abbrev pub act_members : (List ℕ → Data) → Act → List (List ℕ × Data)
act_members written (act.AddSchedule day code trigger period offset action) = dated (codes "add-schedule") day
    ((codes "code", string code) ∷ (codes "trigger", string (trigger_word trigger))
    ∷ (codes "unit", string (unit_word period.unit)) ∷ (codes "count", count_data period.count)
    ∷ (codes "offset", string (offset_word offset)) ∷ (codes "action", string (action_word action)) ∷ [])
act_members written (act.AddClass day code title schedule) = dated (codes "add-class") day
    ((codes "code", string code) ∷ (codes "title", string title) ∷ (codes "schedule", string schedule) ∷ [])
act_members written (act.SetClassSchedule day class schedule) = dated (codes "set-class-schedule") day
    ((codes "class", string class) ∷ (codes "schedule", string schedule) ∷ [])
act_members written (act.AddAggregation day ref_text title parent class) = dated (codes "add-aggregation") day
    ((codes "ref", string ref_text) ∷ (codes "title", string title)
    ∷ (codes "parent", or_null count_data parent) ∷ (codes "class", or_null string class) ∷ [])
act_members written (act.CloseAggregation day aggregation) = dated (codes "close-aggregation") day
    ((codes "aggregation", count_data aggregation) ∷ [])
act_members written (act.AddRecord day ref_text title originated aggregation class schedule content) =
    dated (codes "add-record") day
    ((codes "ref", string ref_text) ∷ (codes "title", string title) ∷ (codes "originated", day_data originated)
    ∷ (codes "aggregation", count_data aggregation) ∷ (codes "class", or_null string class)
    ∷ (codes "schedule", or_null string schedule) ∷ (codes "content", written content) ∷ [])
act_members written (act.SetRecordSchedule day record_no schedule) = dated (codes "set-record-schedule") day
    ((codes "record", count_data record_no) ∷ (codes "schedule", or_null string schedule) ∷ [])
act_members written (act.Reclassify day what class) = dated (codes "reclassify") day
    ((codes "target", string (classified_text what)) ∷ (codes "class", or_null string class) ∷ [])
act_members written (act.PlaceHold day code reason by) = dated (codes "place-hold") day
    ((codes "code", string code) ∷ (codes "reason", string reason) ∷ (codes "by", string by) ∷ [])
act_members written (act.HoldOn day hold what) = dated (codes "hold-on") day
    ((codes "hold", string hold) ∷ (codes "target", string (target_text what)) ∷ [])
act_members written (act.HoldOff day hold what) = dated (codes "hold-off") day
    ((codes "hold", string hold) ∷ (codes "target", string (target_text what)) ∷ [])
act_members written (act.LiftHold day hold) = dated (codes "lift-hold") day ((codes "hold", string hold) ∷ [])
act_members written (act.Confirm day record_no action by) = dated (codes "confirm") day
    ((codes "record", count_data record_no) ∷ (codes "action", string (action_word action))
    ∷ (codes "by", string by) ∷ [])
act_members written (act.Review day record_no schedule by) = dated (codes "review") day
    ((codes "record", count_data record_no) ∷ (codes "schedule", or_null string schedule)
    ∷ (codes "by", string by) ∷ [])
act_members written (act.Receipt day record_no digest by) = dated (codes "receipt") day
    ((codes "record", count_data record_no) ∷ (codes "digest", string (encode_lower digest))
    ∷ (codes "by", string by) ∷ [])
act_members written (act.Event day record_no occurred by) = dated (codes "event") day
    ((codes "record", count_data record_no) ∷ (codes "occurred", day_data occurred) ∷ (codes "by", string by) ∷ [])
act_members written (act.OpenRun day by) = dated (codes "open-run") day ((codes "by", string by) ∷ [])
act_members written act.RunStep = (codes "act", string (codes "run-step")) ∷ []

-- an act, whose content, if it has one, is written like this
abbrev pub act_data : (List ℕ → Data) → Act → Data
act_data written a = object_with (act_members written a)

-- an act, as it is read
abbrev pub whole : Act → Data
whole a = act_data content_data a

-- an act, as a line of the journal has it
abbrev pub noted : Act → Data
noted a = act_data content_note a

-- the acts of a request, as its line has them
abbrev pub notes : List Act → Data
notes acts = array (items_of (map noted acts))
