-- What is read of the office. Source: own; what is reported of a record is MoReq2010's, its record, disposal scheduling
-- and disposal holding services.
use Rattle.std.specs.Prelude.{◌≡◌, ◌↔◌, IsTrue, ℕ, ◌==◌, Bool, not, ◌&&◌, List, [], Option, Some, None, ℤ, pos, int_le, int_lt, if◌then◌else◌}
use Rattle.std.specs.List.{find, Contains}
use Rattle.std.specs.List.Sorted.{IsStrictlySortedBy}
use Rattle.std.specs.Option.{option_map, unwrap_or}
use Rattle.std.specs.Ordering.{int_cmp, nat_cmp, ordering_then}
use Rattle.std.specs.declared.cmp.Ordering.{Ordering}
use Rattle.std.specs.FinMap.{values}
use Rattle.office_days.specs.Due.{deadline_from}
use Rattle.office_records.specs.Disposal.{counts, is_here}
use Rattle.office_records.specs.Lists.{is_some_and, numbered}
use Rattle.office_records.specs.Tree.{TreeState, action_of, class_of, due_of, event_day, plan_of, status_of}
use Rattle.office_records.specs.declared.action.Action.TheVariants.{Keep}
use Rattle.office_records.specs.declared.head.Record.{Record}
use Rattle.office_records.specs.declared.status.Status.{Status}
use Rattle.office_rules.specs.Holds.{least_covering}
use Rattle.office_rules.specs.Outcomes.{is_ending}
use Rattle.office_rules.specs.declared.entry.Entry.{Entry}
use Rattle.office_rules.specs.State.{Office}
use Rattle.office_rules.specs.declared.record_view.RecordView.{RecordView}

-- the entry that ended a record; there is at most one
abbrev pub ending_entry : Office → ℕ → Option Entry
ending_entry s r = find (λ e. e.record_no == r && is_ending e.outcome) (values s.entries)

-- all entries, by run, then record
abbrev pub all_entries_of : Office → List Entry
all_entries_of s = values s.entries

-- what is reported of a record: its head and status, and of its class, plan, due day, hold and confirmation what the
-- office says now
abbrev pub view_of : Office → ℕ → Record → Status → RecordView
view_of s r head status = record {
  number = r;
  ref_text = head.ref_text;
  title = head.title;
  originated = head.originated;
  added = head.added;
  aggregation = head.aggregation;
  length = head.length;
  digest = head.digest;
  status = status;
  class = unwrap_or (class_of s.tree r) [];
  schedule = unwrap_or (plan_of s.tree r) [];
  action = unwrap_or (action_of s.tree r) Keep;
  due = due_of s.tree r;
  event = event_day s.tree r;
  held = least_covering s.holds s.tree r;
  confirmed = head.confirmation;
  counts = counts s.tree r;
}

abbrev pub view_by : Office → ℕ → Option Record → Option Status → Option RecordView
view_by s r (Some head) (Some status) = Some (view_of s r head status)
view_by s r _ _ = None

-- and none where there is no such record
abbrev pub record_view : Office → ℕ → Option RecordView
record_view s r = view_by s r (numbered s.tree.records r) (status_of s.tree r)

-- ---- what is due

-- the record is here, and due on that day or before it
abbrev pub is_due_here : TreeState → ℤ → ℕ → Bool
is_due_here tree day r = is_some_and (status_of tree r) is_here && is_some_and (due_of tree r) (λ due. int_le due day)

-- by due day, then number
abbrev pub due_cmp : TreeState → ℕ → ℕ → Ordering
due_cmp tree r q =
    ordering_then (int_cmp (unwrap_or (due_of tree r) (pos 0)) (unwrap_or (due_of tree q) (pos 0))) (nat_cmp r q)

-- the due list of a day: the records that are here and due then, by due day, then number (MoReq2010, disposal
-- scheduling service)
pub record IsDueList (tree : TreeState) (day : ℤ) (list : List ℕ) : Type 0 where
  pub these : (r : ℕ) → (Contains list r ↔ IsTrue (is_due_here tree day r))
  pub in_order : IsStrictlySortedBy (due_cmp tree) list

-- ---- what is overdue

-- the record is here, its deadline, so many days after its due day, is before that day, and no confirmation of it
-- counts
abbrev pub is_overdue : TreeState → ℤ → ℕ → ℕ → Bool
is_overdue tree day n r =
    is_some_and (status_of tree r) is_here
    && (is_some_and (due_of tree r) (λ due. int_lt (deadline_from due n) day) && not (counts tree r))

-- its deadline; of a record without a due day, which is never overdue, any day
abbrev pub deadline_or : TreeState → ℕ → ℕ → ℤ
deadline_or tree n r = unwrap_or (option_map (λ due. deadline_from due n) (due_of tree r)) (pos 0)

-- by deadline, then number
abbrev pub deadline_cmp : TreeState → ℕ → ℕ → ℕ → Ordering
deadline_cmp tree n r q = ordering_then (int_cmp (deadline_or tree n r) (deadline_or tree n q)) (nat_cmp r q)

-- what is overdue on a day: the records whose deadline, so many days after the due day, is before it, and of which no
-- confirmation counts, by deadline, then number (own)
pub record IsOverdueList (tree : TreeState) (day : ℤ) (n : ℕ) (list : List ℕ) : Type 0 where
  pub these : (r : ℕ) → (Contains list r ↔ IsTrue (is_overdue tree day n r))
  pub in_order : IsStrictlySortedBy (deadline_cmp tree n) list
