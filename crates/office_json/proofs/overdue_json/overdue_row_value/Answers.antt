use Rattle.std.proofs.Common.{ap}
use Rattle.serde_json.proofs.Views.{view-Object}
use Rattle.serde_json.specs.View.{members_view}
use Rattle.office_json.proofs.DueMembers.{overdue_put}
use Rattle.office_json.proofs.Floatless.{overdue_row_has_none}
use Rattle.office_json.proofs.overdue_json.overdue_row_value.Goals as goal

pub returns-clause-value : goal.returns-clause-value
returns-clause-value c =
    let none = ap (λ entries. members_view entries) c.new-map.ensures.empty in
    rw (view-Object c.put_rest.new.map) (overdue_put _ _ _ _ (rw none at c.in_ok-put_overdue.ensures) c.in_ok-put_rest.ensures)

pub returns-clause-no_float : goal.returns-clause-no_float
returns-clause-no_float c = rw (returns-clause-value c) (overdue_row_has_none _ _)
