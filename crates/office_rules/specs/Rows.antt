-- The rows of the tables that represent a state. Source: own.
use Rattle.std.specs.Prelude.{ℕ, Bool, ◌&&◌, ◌||◌, not, List, [], ◌∷◌, map, ℤ}
use Rattle.std.specs.Option.{option_map}
use Rattle.std.specs.Ordering.{nat_cmp, eq_by_cmp}
use Rattle.std.specs.String.{string_bytes}
use Rattle.std.specs.FinMap.{entries, get}
use Rattle.std.specs.FinMap.Entries.{put, where_key}
use Rattle.office_base.specs.Rows.{numbered_rows}
use Rattle.office_records.specs.Lists.{is_some_and}
use Rattle.office_records.specs.Tree.{code_cmp}
use Rattle.office_records.specs.declared.aggregation.Aggregation.{Aggregation}
use Rattle.office_records.specs.declared.class.Class.{Class}
use Rattle.office_records.specs.declared.event.Event.{Event}
use Rattle.office_records.specs.declared.head.Record.{Record}
use Rattle.office_records.specs.declared.schedule.Schedule.{Schedule}
use Rattle.office_records.specs.declared.status.Status.{Status}
use Rattle.office_rules.specs.HoldLoading.{is_pair}
use Rattle.office_rules.specs.Holds.{HoldMap, has_target}
use Rattle.office_rules.specs.HoldRows.{hold_row}
use Rattle.office_records.specs.declared.hold_row.HoldRow.{HoldRow}
use Rattle.office_records.specs.declared.target.Target.{Target}
use Rattle.office_rules.specs.declared.entry.Entry.{Entry}
use Rattle.office_rules.specs.State.{State, entry_cmp}
use Rattle.office_rules.specs.declared.rows.RecordRow.{RecordRow}
use Rattle.office_rules.specs.declared.rows.RowWrite.{RowWrite}
use Rattle.office_rules.specs.declared.rows.RowWrite.TheVariants as row_write
use Rattle.office_rules.specs.declared.run.Run.{Run}

-- the row of each table by its key, in the order of the keys; of `targets` which hold has which target, of `office` the
-- day, since it has one row and one version
pub record TableRows : Type 0 where
  pub day : ℤ
  pub schedules : List (List ℕ × Schedule)
  pub classes : List (List ℕ × Class)
  pub aggregations : List (ℕ × Aggregation)
  pub records : List (ℕ × RecordRow)
  pub events : List (ℕ × Event)
  pub contents : List (ℕ × List ℕ)
  pub holds : List (List ℕ × HoldRow)
  pub targets : List ℕ → Target → Bool
  pub runs : List (ℕ × Run)
  pub entries_by : List ((ℕ × ℕ) × Entry)
  pub certificates : List (ℕ × List ℕ)

-- a record's columns: its head's, its status, and each of the three groups that it may have
abbrev pub record_row : Record → Status → RecordRow
record_row head status = record {
  ref_text = head.ref_text;
  title = head.title;
  originated = head.originated;
  added = head.added;
  aggregation = head.aggregation;
  size = head.length;
  digest = head.digest;
  status = status;
  class = head.class;
  schedule = head.schedule;
  reviewed = option_map (λ review. review.day) head.review;
  reviewed_by = option_map (λ review. review.by) head.review;
  conf_action = option_map (λ confirmation. confirmation.action) head.confirmation;
  conf_due = option_map (λ confirmation. confirmation.due) head.confirmation;
  conf_day = option_map (λ confirmation. confirmation.day) head.confirmation;
  conf_by = option_map (λ confirmation. confirmation.by) head.confirmation;
  receipt_day = option_map (λ receipt. receipt.day) head.receipt;
  receipt_by = option_map (λ receipt. receipt.by) head.receipt;
}

-- the rows of heads with their statuses beside them
abbrev pub record_rows : List Record → List Status → List RecordRow
record_rows [] statuses = []
record_rows (head ∷ heads) [] = []
record_rows (head ∷ heads) (status ∷ statuses) = record_row head status ∷ record_rows heads statuses

-- which hold has which target
abbrev pub targets_of : HoldMap → List ℕ → Target → Bool
targets_of holds code target = is_some_and (get holds code) (λ hold. has_target hold target)

-- the rows that represent a state
unfoldable pub rows_of : State → TableRows
rows_of s = record {
  day = s.office.day;
  schedules = entries s.office.tree.schedules;
  classes = entries s.office.tree.classes;
  aggregations = numbered_rows s.office.tree.aggregations;
  records = numbered_rows (record_rows s.office.tree.records s.office.tree.statuses);
  events = entries s.office.tree.events;
  contents = entries s.contents;
  holds = map (λ e. (e.0, hold_row e.1)) (entries s.office.holds);
  targets = targets_of s.office.holds;
  runs = numbered_rows s.office.runs;
  entries_by = entries s.office.entries;
  certificates = entries s.office.certificates;
}

-- the rows with one put in by its key, or taken away
abbrev pub write_rows : RowWrite → TableRows → TableRows
write_rows (row_write.Schedule code schedule) t = record t { schedules = put code_cmp code schedule t.schedules }
write_rows (row_write.Class code class) t = record t { classes = put code_cmp code class t.classes }
write_rows (row_write.Aggregation number aggregation) t =
    record t { aggregations = put nat_cmp number aggregation t.aggregations }
write_rows (row_write.Record number head status) t =
    record t { records = put nat_cmp number (record_row head status) t.records }
write_rows (row_write.Event number event) t = record t { events = put nat_cmp number event t.events }
write_rows (row_write.Content number bytes) t = record t { contents = put nat_cmp number bytes.items t.contents }
write_rows (row_write.DeleteContent number) t =
    record t { contents = where_key nat_cmp (λ n. not (eq_by_cmp nat_cmp number n)) t.contents }
write_rows (row_write.Hold code hold) t = record t { holds = put code_cmp code hold t.holds }
write_rows (row_write.Target hold target) t =
    record t { targets = λ code other. is_pair hold target code other || t.targets code other }
write_rows (row_write.RemoveTarget hold target) t =
    record t { targets = λ code other. not (is_pair hold target code other) && t.targets code other }
write_rows (row_write.Run number run) t = record t { runs = put nat_cmp number run t.runs }
write_rows (row_write.Entry entry) t =
    record t { entries_by = put entry_cmp (entry.run, entry.record_no) entry t.entries_by }
write_rows (row_write.Certificate run text) t =
    record t { certificates = put nat_cmp run (string_bytes text) t.certificates }
write_rows (row_write.Day day) t = record t { day = day }

-- rows with writes, one after another
abbrev pub all_row_writes : List RowWrite → TableRows → TableRows
all_row_writes [] t = t
all_row_writes (w ∷ ws) t = all_row_writes ws (write_rows w t)
