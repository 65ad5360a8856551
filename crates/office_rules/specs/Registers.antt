-- What the registers report, row by row: the records that are due on a day, those that are overdue, and the entries of
-- all runs. Source: own; what is reported of a record is MoReq2010's, its record, disposal scheduling and disposal
-- holding services.
use Rattle.std.specs.Prelude.{◌≡◌, ℕ, ℤ, Bool, List, [], ◌∷◌, Option, Some, None}
use Rattle.std.specs.Option.{option_copied, unwrap_or}
use Rattle.office_records.specs.Disposal.{counts}
use Rattle.office_records.specs.Lists.{numbered}
use Rattle.office_records.specs.Tree.{TreeState, action_of, class_of, due_of, plan_of}
use Rattle.office_records.specs.declared.action.Action.{Action}
use Rattle.office_records.specs.declared.action.Action.TheVariants.{Keep}
use Rattle.office_records.specs.declared.head.Record.{Record}
use Rattle.office_rules.specs.Holds.{least_covering}
use Rattle.office_rules.specs.declared.entry.Entry.{Entry}
use Rattle.office_rules.specs.Readings.{IsDueList, IsOverdueList, all_entries_of}
use Rattle.office_rules.specs.State.{Office}
use Rattle.office_rules.specs.declared.due_row.DueRow.{DueRow}
use Rattle.office_rules.specs.declared.entry_row.EntryRow.{EntryRow}

-- ---- what is due

-- a record that is due: the class, schedule and action in effect, its due day, the least hold that covers it, and
-- whether a confirmation of it counts
pub record DueRowView : Type 0 where
  pub number : ℕ
  pub ref_text : List ℕ
  pub class : List ℕ
  pub schedule : List ℕ
  pub action : Action
  pub due : ℤ
  pub held : Option (List ℕ)
  pub counts : Bool

-- what a row reports
abbrev pub due_reported : DueRow → DueRowView
due_reported row = record {
  number = row.number;
  ref_text = row.ref_text.now;
  class = row.class.now;
  schedule = row.schedule.now;
  action = row.action;
  due = row.due;
  held = option_copied row.held;
  counts = row.counts;
}

-- what is reported of a record with its head and due day
abbrev pub due_row_of : Office → ℕ → Record → ℤ → DueRowView
due_row_of s r head due = record {
  number = r;
  ref_text = head.ref_text;
  class = unwrap_or (class_of s.tree r) [];
  schedule = unwrap_or (plan_of s.tree r) [];
  action = unwrap_or (action_of s.tree r) Keep;
  due = due;
  held = least_covering s.holds s.tree r;
  counts = counts s.tree r;
}

abbrev pub due_row_by : Office → ℕ → Option Record → Option ℤ → Option DueRowView
due_row_by s r (Some head) (Some due) = Some (due_row_of s r head due)
due_row_by s r _ _ = None

-- and nothing where there is no such record, or it has no due day
abbrev pub due_row : Office → ℕ → Option DueRowView
due_row s r = due_row_by s r (numbered s.tree.records r) (due_of s.tree r)

abbrev pub and_due : Option DueRowView → List DueRowView → List DueRowView
and_due None rows = rows
and_due (Some row) rows = row ∷ rows

-- what is reported of the records of a list, in their order
abbrev pub due_rows_of : Office → List ℕ → List DueRowView
due_rows_of s [] = []
due_rows_of s (r ∷ rs) = and_due (due_row s r) (due_rows_of s rs)

-- the rows of a day: of each record of its due list, in their order
abbrev pub AreDueRows : Office → ℤ → List DueRowView → Type 0
AreDueRows s day rows = (list : List ℕ) × IsDueList s.tree day list × (rows ≡ due_rows_of s list)

-- the rows of what is overdue on a day, so many days after the due day: of each record of that list, in their order
abbrev pub AreOverdueRows : Office → ℤ → ℕ → List DueRowView → Type 0
AreOverdueRows s day n rows = (list : List ℕ) × IsOverdueList s.tree day n list × (rows ≡ due_rows_of s list)

-- ---- the entries

-- an entry with the ref of its record, and length and digest of what was its content
pub record EntryView : Type 0 where
  pub entry : Entry
  pub ref_text : List ℕ
  pub length : ℕ
  pub digest : List ℕ

-- what a row reports
abbrev pub entry_view : EntryRow → EntryView
entry_view row =
    record { entry = row.entry.now; ref_text = row.ref_text.now; length = row.length; digest = row.digest.now }

-- an entry with its record's head, before those that follow
abbrev pub and_entry : Option Record → Entry → List EntryView → List EntryView
and_entry None entry rows = rows
and_entry (Some head) entry rows =
    record { entry = entry; ref_text = head.ref_text; length = head.length; digest = head.digest } ∷ rows

abbrev pub entry_rows_of : TreeState → List Entry → List EntryView
entry_rows_of tree [] = []
entry_rows_of tree (entry ∷ rest) = and_entry (numbered tree.records entry.record_no) entry (entry_rows_of tree rest)

-- the rows of all entries, by run, then record
abbrev pub entry_rows : Office → List EntryView
entry_rows s = entry_rows_of s.tree (all_entries_of s)
