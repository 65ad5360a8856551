-- What a plan file makes and what is printed of it. Source: own; class, plan and due day are those of the tree
-- (MoReq2010).
use Rattle.std.specs.Prelude.{ℕ, zero, suc, ℤ, ◌+◌, ◌==◌, List, [], ◌∷◌, ◌++◌, length, Option, Some, None, Result, Ok, Err, codes, replicate, if◌then◌else◌}
use Rattle.std.specs.Fmt.{decimal}
use Rattle.std.specs.Str.{is_utf8}
use Rattle.std.specs.Str.Lines.{lines}
use Rattle.office_base.specs.declared.refusal.Refusal.{Refusal}
use Rattle.office_base.specs.declared.refusal.Refusal.TheVariants.{BadText}
use Rattle.office_days.specs.Calendar.{civil}
use Rattle.office_days.specs.Texts.{day_text}
use Rattle.office_records.specs.Conditions.{conditions_of_add_aggregation, conditions_of_add_class, conditions_of_add_record, conditions_of_add_schedule, conditions_of_close_aggregation, conditions_of_event, first_of}
use Rattle.office_records.specs.Effects.{added_aggregation, added_class, added_record, added_schedule, closed_aggregation, with_event}
use Rattle.office_records.specs.Tree.{TreeState, due_of, empty_tree}
use Rattle.office_records.specs.declared.head.Record.{Record as RecordHead}
use Rattle.office_plan.specs.PlanLines.{line_asked}
use Rattle.office_plan.specs.declared.plan_line.PlanLine.{PlanLine}
use Rattle.office_plan.specs.declared.plan_line.PlanLine.TheVariants.{Schedule, Class, Aggregation, Close, Record, Event}

-- the ref and the title of the next aggregation: the digits of its number
abbrev pub next_aggregation : TreeState → List ℕ
next_aggregation tree = decimal (length tree.aggregations + 1)

-- likewise of a record
abbrev pub next_record : TreeState → List ℕ
next_record tree = decimal (length tree.records + 1)

-- the head of a record of a plan file, which has no content
abbrev pub planned_head : List ℕ → ℕ → Option (List ℕ) → Option (List ℕ) → ℤ → ℤ → RecordHead
planned_head digits aggregation class schedule originated added = record {
  ref_text = digits;
  title = digits;
  originated = originated;
  added = added;
  aggregation = aggregation;
  class = class;
  schedule = schedule;
  length = 0;
  digest = replicate 32 0;
  review = None;
  confirmation = None;
  receipt = None;
}

-- the tree's refusal, else the tree with the change
abbrev pub done_or_refused : Option Refusal → TreeState → Result TreeState Refusal
done_or_refused None tree = Ok tree
done_or_refused (Some refusal) tree = Err refusal

-- what a line does to the tree, or why the tree refuses it; an event is recorded on the day on which it occurred, by
-- the digits of its record's number
unfoldable pub line_done : TreeState → PlanLine → Result TreeState Refusal
line_done tree (Schedule code schedule) =
    done_or_refused (first_of (conditions_of_add_schedule tree code)) (added_schedule tree code schedule)
line_done tree (Class code schedule) = done_or_refused (first_of (conditions_of_add_class tree code schedule)) (added_class tree code (record { title = code; schedule = schedule }))
line_done tree (Aggregation class parent) =
    done_or_refused (first_of (conditions_of_add_aggregation tree (next_aggregation tree) parent class))
    (added_aggregation tree (next_aggregation tree) (next_aggregation tree) parent class)
line_done tree (Close a day) =
    done_or_refused (first_of (conditions_of_close_aggregation tree a)) (closed_aggregation tree a day)
line_done tree (Record a class schedule originated added) =
    done_or_refused (first_of (conditions_of_add_record tree (next_record tree) a class schedule))
    (added_record tree (planned_head (next_record tree) a class schedule originated added))
line_done tree (Event r day) =
    done_or_refused (first_of (conditions_of_event tree day r day)) (with_event tree day r day (decimal r))

-- a line that was read is done
abbrev pub read_and_done : TreeState → Result PlanLine Refusal → Result TreeState Refusal
read_and_done tree (Ok line) = line_done tree line
read_and_done tree (Err refusal) = Err refusal

-- an empty line does nothing, one that is not UTF-8 is refused, and each other is read and done
unfoldable pub line_taken : TreeState → List ℕ → Result TreeState Refusal
line_taken tree line =
    if length line == 0 then Ok tree
    else (if is_utf8 line then read_and_done tree (line_asked line) else Err BadText)

-- what follows a line of that number, or its number and why it is refused
abbrev pub followed : ℕ → Result TreeState Refusal → (TreeState → Result TreeState (ℕ × Refusal))
    → Result TreeState (ℕ × Refusal)
followed number (Ok tree) rest = rest tree
followed number (Err refusal) rest = Err (number, refusal)

-- line after line, the first of which has that number, until one is refused
unfoldable pub plan_from : ℕ → List (List ℕ) → TreeState → Result TreeState (ℕ × Refusal)
plan_from number [] tree = Ok tree
plan_from number (line ∷ rest) tree = followed number (line_taken tree line) (plan_from (number + 1) rest)

-- the tree that the bytes of a plan file make, or the first line that is refused
abbrev pub plan_asked : List ℕ → Result TreeState (ℕ × Refusal)
plan_asked bytes = plan_from 1 (lines bytes) empty_tree

-- a due day as it is printed, or `-`
abbrev pub due_word : Option ℤ → List ℕ
due_word None = codes "-"
due_word (Some due) = day_text (civil due)

-- the number of a record and its due day, or `-` where it has none
unfoldable pub due_line : TreeState → ℕ → List ℕ
due_line tree r = decimal r ++ codes " " ++ due_word (due_of tree r) ++ 10 ∷ []

-- the lines of the first n records
unfoldable pub due_lines : TreeState → ℕ → List ℕ
due_lines tree zero = []
due_lines tree (suc n) = due_lines tree n ++ due_line tree (suc n)

-- what is printed of a plan file: a line for each record, and nothing where a line is refused
abbrev pub plan_written : Result TreeState (ℕ × Refusal) → List ℕ
plan_written (Ok tree) = due_lines tree (length tree.records)
plan_written (Err refused) = []

-- which line is refused, and why
abbrev pub plan_refusal : Result TreeState (ℕ × Refusal) → Option (ℕ × Refusal)
plan_refusal (Ok tree) = None
plan_refusal (Err refused) = Some refused

-- the tree, where no line was refused
abbrev pub plan_result : Option (ℕ × Refusal) → TreeState → Result TreeState (ℕ × Refusal)
plan_result None tree = Ok tree
plan_result (Some refused) tree = Err refused
