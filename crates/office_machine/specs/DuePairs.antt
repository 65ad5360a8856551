-- The rows of due days and numbers. Source: own.
use Rattle.std.specs.Prelude.{◌≡◌, ℕ, ℤ, IsTrue, List, Some}
use Rattle.std.specs.List.{AllByRecursion}
use Rattle.std.specs.Map.{values_of}
use Rattle.office_records.specs.Tree.{TreeState, due_of, has_record}
use Rattle.office_rules.specs.Registers.{DueRowView, due_rows_of}
use Rattle.office_rules.specs.State.{Office}

-- each is of a record that is there, with its due day
abbrev pub AreOwnPairs : TreeState → List (ℤ × ℕ) → Type 0
AreOwnPairs tree pairs =
    AllByRecursion (λ pair. IsTrue (has_record tree pair.1) × (due_of tree pair.1 ≡ Some pair.0)) pairs

-- what is reported of their records, in their order
abbrev pub rows_of_pairs : Office → List (ℤ × ℕ) → List DueRowView
rows_of_pairs s pairs = due_rows_of s (values_of pairs)
