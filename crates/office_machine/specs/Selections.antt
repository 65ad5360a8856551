-- Which records a list of due records has: those that are due by a day, or those that are overdue on it. Source: own.
use Rattle.std.specs.Prelude.{◌≡◌, ◌↔◌, ℕ, ℤ, Bool, not, ◌&&◌, int_le, int_lt, List, Option, Some, None, if◌then◌else◌}
use Rattle.std.specs.List.{Contains}
use Rattle.office_days.specs.Due.{deadline_from}
use Rattle.office_records.specs.Disposal.{counts, is_here}
use Rattle.office_records.specs.Lists.{is_some_and}
use Rattle.office_records.specs.Tree.{TreeState, due_of, status_of}
use Rattle.office_rules.specs.Readings.{IsDueList, IsOverdueList}
use Rattle.office_rules.specs.Registers.{AreDueRows, AreOverdueRows, DueRowView}
use Rattle.office_rules.specs.State.{Office}
use Rattle.office_machine.specs.declared.selection.Selection.{Selection}
use Rattle.office_machine.specs.declared.selection.Selection.TheVariants.{Due, Overdue}

-- of the records that are here it has those with such a due day
abbrev pub selects_due : Selection → TreeState → ℕ → ℤ → Bool
selects_due (Due day) tree r due = int_le due day
selects_due (Overdue day n) tree r due = int_lt (deadline_from due n) day && not (counts tree r)

abbrev pub is_selected : Selection → TreeState → ℕ → Bool
is_selected it tree r =
    is_some_and (status_of tree r) is_here && is_some_and (due_of tree r) (λ due. selects_due it tree r due)

-- the due day of a record that it has
abbrev pub due_selected : Selection → TreeState → ℕ → Option ℤ
due_selected it tree r = if is_selected it tree r then due_of tree r else None

-- the pairs are of the records that it has: the due day and the number
abbrev pub AreSelectedPairs : Selection → TreeState → List (ℤ × ℕ) → Type 0
AreSelectedPairs it tree pairs = (due : ℤ) (r : ℕ) → (Contains pairs (due, r) ↔ (due_selected it tree r ≡ Some due))

-- ---- the lists and the rows, by the office's rules

abbrev pub IsSelectedList : Selection → TreeState → List ℕ → Type 0
IsSelectedList (Due day) tree list = IsDueList tree day list
IsSelectedList (Overdue day n) tree list = IsOverdueList tree day n list

abbrev pub AreSelectedRows : Selection → Office → List DueRowView → Type 0
AreSelectedRows (Due day) s rows = AreDueRows s day rows
AreSelectedRows (Overdue day n) s rows = AreOverdueRows s day n rows
