-- The lines of a plan file, by their words. Source: own.
--     schedule CODE TRIGGER UNIT COUNT OFFSET ACTION      class CODE SCHEDULE      aggregation CLASS PARENT
--     close NUMBER DAY      record AGGREGATION CLASS SCHEDULE ORIGINATED ADDED      event NUMBER DAY
use Rattle.std.specs.Prelude.{ℕ, List, [], ◌==◌, ◌&&◌, ◌+◌, ℤ, Bool, length, Option, Result, Err, codes, unwrap_or, slice_get, if◌then◌else◌}
use Rattle.std.specs.List.{slice_split}
use Rattle.std.specs.Str.{bytes_eq}
use Rattle.office_days.specs.declared.offset.Offset.{Offset}
use Rattle.office_base.specs.declared.refusal.Refusal.{Refusal}
use Rattle.office_base.specs.declared.refusal.Refusal.TheVariants.{BadText}
use Rattle.office_days.specs.Periods.{RetentionPeriod}
use Rattle.office_days.specs.Texts.{day_named}
use Rattle.office_base.specs.EntityNumbers.{entity_number}
use Rattle.office_days.specs.Words.{offset_named}
use Rattle.office_records.specs.declared.action.Action.{Action}
use Rattle.office_records.specs.declared.schedule.Schedule.{Schedule as DisposalSchedule}
use Rattle.office_records.specs.declared.trigger.Trigger.{Trigger}
use Rattle.office_records.specs.Words.{action_named, trigger_named}
use Rattle.office_plan.specs.Parts.{both, made, named_part, code_part, optional_part, period_part}
use Rattle.office_plan.specs.declared.plan_line.PlanLine.{PlanLine}
use Rattle.office_plan.specs.declared.plan_line.PlanLine.TheVariants.{Schedule, Class, Aggregation, Close, Record, Event}

-- the words of a line are parted by one space
abbrev pub words_of : List ℕ → List (List ℕ)
words_of line = slice_split (λ byte. byte == 32) line

-- the word at a place, from 0; past the last word there are only empty ones, which are no part of any line
abbrev pub word_at : List (List ℕ) → ℕ → List ℕ
word_at words i = unwrap_or (slice_get words i) []

-- what is at a place of a line
unfoldable pub code_at : List (List ℕ) → ℕ → Result (List ℕ) Refusal
code_at words i = code_part (word_at words i)

unfoldable pub optional_code_at : List (List ℕ) → ℕ → Result (Option (List ℕ)) Refusal
optional_code_at words i = optional_part code_part (word_at words i)

unfoldable pub number_at : List (List ℕ) → ℕ → Result ℕ Refusal
number_at words i = entity_number (word_at words i)

unfoldable pub optional_number_at : List (List ℕ) → ℕ → Result (Option ℕ) Refusal
optional_number_at words i = optional_part entity_number (word_at words i)

unfoldable pub day_at : List (List ℕ) → ℕ → Result ℤ Refusal
day_at words i = named_part (day_named (word_at words i))

unfoldable pub trigger_at : List (List ℕ) → ℕ → Result Trigger Refusal
trigger_at words i = named_part (trigger_named (word_at words i))

-- a period's unit, and its count at the place after that
unfoldable pub period_at : List (List ℕ) → ℕ → Result RetentionPeriod Refusal
period_at words i = period_part (word_at words i) (word_at words (i + 1))

unfoldable pub offset_at : List (List ℕ) → ℕ → Result Offset Refusal
offset_at words i = named_part (offset_named (word_at words i))

unfoldable pub action_at : List (List ℕ) → ℕ → Result Action Refusal
action_at words i = named_part (action_named (word_at words i))

-- the parts of a schedule: trigger and period, offset and action
abbrev pub schedule_made : (Trigger × RetentionPeriod) × (Offset × Action) → DisposalSchedule
schedule_made p = record { trigger = p.0.0; period = p.0.1; offset = p.1.0; action = p.1.1 }

unfoldable pub keeping_at : List (List ℕ) → ℕ → Result (Trigger × RetentionPeriod) Refusal
keeping_at words i = both (trigger_at words i) (period_at words (i + 1))

unfoldable pub disposal_at : List (List ℕ) → ℕ → Result (Offset × Action) Refusal
disposal_at words i = both (offset_at words i) (action_at words (i + 1))

unfoldable pub schedule_at : List (List ℕ) → ℕ → Result DisposalSchedule Refusal
schedule_at words i = made schedule_made (both (keeping_at words i) (disposal_at words (i + 3)))

unfoldable pub schedule_line : List (List ℕ) → Result PlanLine Refusal
schedule_line words = made (λ p. Schedule p.0 p.1) (both (code_at words 1) (schedule_at words 2))

unfoldable pub class_line : List (List ℕ) → Result PlanLine Refusal
class_line words = made (λ p. Class p.0 p.1) (both (code_at words 1) (code_at words 2))

unfoldable pub aggregation_line : List (List ℕ) → Result PlanLine Refusal
aggregation_line words = made (λ p. Aggregation p.0 p.1) (both (optional_code_at words 1) (optional_number_at words 2))

unfoldable pub close_line : List (List ℕ) → Result PlanLine Refusal
close_line words = made (λ p. Close p.0 p.1) (both (number_at words 1) (day_at words 2))

-- where a record belongs: its aggregation, and its own class and schedule
unfoldable pub place_at : List (List ℕ) → ℕ → Result (ℕ × (Option (List ℕ) × Option (List ℕ))) Refusal
place_at words i = both (number_at words i) (both (optional_code_at words (i + 1)) (optional_code_at words (i + 2)))

unfoldable pub days_at : List (List ℕ) → ℕ → Result (ℤ × ℤ) Refusal
days_at words i = both (day_at words i) (day_at words (i + 1))

unfoldable pub record_line : List (List ℕ) → Result PlanLine Refusal
record_line words = made (λ p. Record p.0.0 p.0.1.0 p.0.1.1 p.1.0 p.1.1) (both (place_at words 1) (days_at words 4))

unfoldable pub event_line : List (List ℕ) → Result PlanLine Refusal
event_line words = made (λ p. Event p.0 p.1) (both (number_at words 1) (day_at words 2))

-- the line begins with that word and has so many
unfoldable pub is_line : List ℕ → ℕ → List (List ℕ) → Bool
is_line kind count words = bytes_eq (word_at words 0) kind && (length words == count)

-- what a line asks for, by its first word and the number of its words; any other line is refused
unfoldable pub line_by_words : List (List ℕ) → Result PlanLine Refusal
line_by_words words =
    if is_line (codes "schedule") 7 words then schedule_line words
    else (if is_line (codes "class") 3 words then class_line words
    else (if is_line (codes "aggregation") 3 words then aggregation_line words
    else (if is_line (codes "close") 3 words then close_line words
    else (if is_line (codes "record") 6 words then record_line words
    else (if is_line (codes "event") 3 words then event_line words
    else Err BadText)))))

unfoldable pub line_asked : List ℕ → Result PlanLine Refusal
line_asked line = line_by_words (words_of line)
