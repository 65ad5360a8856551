use Rattle.std.proofs.Common.{◌≡◌, ◌++◌, length, map}
use Rattle.serde_json.specs.View.{view}
use Rattle.office_gate.specs.Lists.{listed}
use Rattle.office_gate.specs.Visitors.{visitor_of}
use Rattle.office_json.specs.OverdueJson.{overdue_row_data}
use Rattle.office_gate.proofs.lists.overdue_values.Given as goal

-- what was reported of rows, and what is to be reported of those that are left, is what is to be reported of all
abbrev pub invariant-loop-row : goal.invariant-loop-row
invariant-loop-row l =
    map view l.values.items ++ map (overdue_row_data l.days) (listed (visitor_of l.keeper) l.rows) ≡ map (overdue_row_data l.days) (listed (visitor_of l.keeper) l.initial.rows)

abbrev pub decreases-loop-row : goal.decreases-loop-row
decreases-loop-row l = length l.rows
