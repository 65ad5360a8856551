-- Marks of aggregations, one for each, by number. Source: own.
use Rattle.std.specs.Prelude.{◌≡◌, ◌+◌, ◌<◌, ℕ, Bool, false, List, length, slice_index_or}
use Rattle.std.specs.List.{list_any}
use Rattle.office_records.specs.Tree.{TreeState}
use Rattle.office_rules.specs.declared.entry.Entry.{Entry}
use Rattle.office_rules.specs.Runs.{ended_below}

-- marked are those that have a record below that one of the entries ended
pub record AreMarks (tree : TreeState) (entries : List Entry) (marks : List Bool) : Type 0 where
  pub count : length marks ≡ length tree.aggregations
  pub each : (i : ℕ) → i < length marks → slice_index_or marks i false ≡ list_any (ended_below tree (i + 1)) entries
