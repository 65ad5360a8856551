-- What `due UNIT COUNT OFFSET DAY` answers. Source: own.
use Rattle.std.specs.Prelude.{ℕ, ℤ, List, [], ◌∷◌, ◌++◌, Option, Some, None, Result, Ok, Err}
use Rattle.office_days.specs.declared.offset.Offset.{Offset}
use Rattle.office_base.specs.declared.refusal.Refusal.{Refusal}
use Rattle.office_days.specs.Calendar.{civil}
use Rattle.office_days.specs.Due.{due_from}
use Rattle.office_days.specs.Periods.{RetentionPeriod}
use Rattle.office_days.specs.Texts.{day_named, day_text}
use Rattle.office_days.specs.Words.{offset_named}
use Rattle.office_plan.specs.Parts.{both, made, named_part, period_part}

-- the offset and the start day
unfoldable pub move_asked : List ℕ → List ℕ → Result (Offset × ℤ) Refusal
move_asked offset day = both (named_part (offset_named offset)) (named_part (day_named day))

abbrev pub due_made : RetentionPeriod × (Offset × ℤ) → ℤ
due_made p = due_from p.1.1 p.0 p.1.0

-- the due day that the operands ask for, or why there is none
unfoldable pub due_asked : List ℕ → List ℕ → List ℕ → List ℕ → Result ℤ Refusal
due_asked unit count offset day = made due_made (both (period_part unit count) (move_asked offset day))

-- why there is no due day
abbrev pub refusal_asked : Result ℤ Refusal → Option Refusal
refusal_asked (Ok due) = None
refusal_asked (Err refusal) = Some refusal

-- the day and a line feed
abbrev pub due_line : ℤ → List ℕ
due_line due = day_text (civil due) ++ 10 ∷ []

-- what is written: the line of the due day, or nothing
abbrev pub written_line : Result ℤ Refusal → List ℕ
written_line (Ok due) = due_line due
written_line (Err refusal) = []
