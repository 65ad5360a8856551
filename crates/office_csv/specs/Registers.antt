-- The registers as CSV: what is due on a day, what is overdue on it, and the entries of all runs. Source: RFC 4180, its
-- fields and their quoting; that a line ends with a line feed alone, and the columns, are own.
use Rattle.std.specs.Prelude.{ℕ, ℤ, Bool, true, false, List, [], ◌∷◌, ◌++◌, codes}
use Rattle.std.specs.Fmt.{decimal}
use Rattle.std.specs.List.{flat_map}
use Rattle.std.specs.Option.{unwrap_or}
use Rattle.csv.specs.Writing.{default_writer, row_text}
use Rattle.hex.specs.Hex.{encode_lower}
use Rattle.office_days.specs.Calendar.{civil}
use Rattle.office_days.specs.Due.{deadline_from}
use Rattle.office_days.specs.Texts.{day_text}
use Rattle.office_records.specs.Words.{action_word}
use Rattle.office_rules.specs.Outcomes.{outcome_word}
use Rattle.office_rules.specs.Registers.{DueRowView, EntryView}

-- a row of a register, with its line feed
abbrev pub row_of : List (List ℕ) → List ℕ
row_of fields = row_text default_writer fields

-- a day, as 2024-02-29
abbrev pub day_field : ℤ → List ℕ
day_field day = day_text (civil day)

-- whether a confirmation counts
abbrev pub yes_or_no : Bool → List ℕ
yes_or_no true = codes "yes"
yes_or_no false = codes "no"

-- ---- what is due

abbrev pub due_columns : List (List ℕ)
due_columns = codes "record" ∷ codes "ref" ∷ codes "class" ∷ codes "schedule" ∷ codes "action" ∷ codes "due" ∷ codes "held" ∷ codes "confirmed" ∷ []

-- a record that is due: the least hold that covers it, or nothing, and whether a confirmation of it counts
abbrev pub due_fields : DueRowView → List (List ℕ)
due_fields r =
    decimal r.number ∷ r.ref_text ∷ r.class ∷ r.schedule ∷ action_word r.action ∷ day_field r.due ∷ unwrap_or r.held []
    ∷ yes_or_no r.counts ∷ []

unfoldable pub due_line : DueRowView → List ℕ
due_line r = row_of (due_fields r)

abbrev pub due_lines : List DueRowView → List ℕ
due_lines rows = flat_map due_line rows

-- the due register: its columns, and then a line for each row
abbrev pub due_register : List DueRowView → List ℕ
due_register rows = row_of due_columns ++ due_lines rows

-- ---- what is overdue

abbrev pub overdue_columns : List (List ℕ)
overdue_columns = codes "record" ∷ codes "ref" ∷ codes "class" ∷ codes "schedule" ∷ codes "action" ∷ codes "due" ∷ codes "deadline" ∷ codes "held" ∷ []

-- a record that is overdue: its deadline, so many days after its due day, and the least hold that covers it, or nothing
abbrev pub overdue_fields : ℕ → DueRowView → List (List ℕ)
overdue_fields n r =
    decimal r.number ∷ r.ref_text ∷ r.class ∷ r.schedule ∷ action_word r.action ∷ day_field r.due
    ∷ day_field (deadline_from r.due n) ∷ unwrap_or r.held [] ∷ []

unfoldable pub overdue_line : ℕ → DueRowView → List ℕ
overdue_line n r = row_of (overdue_fields n r)

abbrev pub overdue_lines : ℕ → List DueRowView → List ℕ
overdue_lines n rows = flat_map (overdue_line n) rows

-- the overdue register: its columns, and then a line for each row
abbrev pub overdue_register : ℕ → List DueRowView → List ℕ
overdue_register n rows = row_of overdue_columns ++ overdue_lines n rows

-- ---- the entries

abbrev pub entry_columns : List (List ℕ)
entry_columns =
    codes "run" ∷ codes "record" ∷ codes "ref" ∷ codes "outcome" ∷ codes "class" ∷ codes "schedule" ∷ codes "due"
    ∷ codes "hold" ∷ codes "confirmed_by" ∷ codes "length" ∷ codes "digest" ∷ []

-- an entry, the ref of its record, and length and SHA-256 of what was its content
abbrev pub entry_fields : EntryView → List (List ℕ)
entry_fields it =
    decimal it.entry.run ∷ decimal it.entry.record_no ∷ it.ref_text ∷ outcome_word it.entry.outcome ∷ it.entry.class
    ∷ it.entry.schedule
    ∷ day_field it.entry.due ∷ unwrap_or it.entry.hold [] ∷ it.entry.confirmed_by ∷ decimal it.length
    ∷ encode_lower it.digest ∷ []

unfoldable pub entry_line : EntryView → List ℕ
entry_line it = row_of (entry_fields it)

abbrev pub entry_lines : List EntryView → List ℕ
entry_lines rows = flat_map entry_line rows

-- the register of entries: its columns, and then a line for each row
abbrev pub entry_register : List EntryView → List ℕ
entry_register rows = row_of entry_columns ++ entry_lines rows
