use Rattle.std.proofs.Common.{◌≡◌, ◌++◌, length, map}
use Rattle.serde_json.specs.View.{view}
use Rattle.office_json.specs.OverdueJson.{overdue_row_data}
use Rattle.office_wire.proofs.replies.overdue_values.Given as goal

-- the values of rows, and those that the rows that are left will have, are the values of all
abbrev pub invariant-loop-row : goal.invariant-loop-row
invariant-loop-row l = map view l.values.items ++ map (overdue_row_data l.days) l.rows ≡ map (overdue_row_data l.days) l.initial.rows

abbrev pub decreases-loop-row : goal.decreases-loop-row
decreases-loop-row l = length l.rows
