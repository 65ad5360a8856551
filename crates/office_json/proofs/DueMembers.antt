-- The members of a record that is due or overdue, put a few at a time, are in the order of their names.
use Rattle.std.proofs.Common.{◌≡◌, ℕ, refl}
use Rattle.serde_json.proofs.OnLiterals.{serde_json_on_literals}
use Rattle.serde_json.specs.Data.{Members, object, no_members}
use Rattle.office_rules.specs.Registers.{DueRowView}
use Rattle.office_json.specs.DueJson.{due_row_data, put_plan, put_rest}
use Rattle.office_json.specs.OverdueJson.{overdue_row_data, put_overdue}

in_order : (r : DueRowView) → object (put_rest r (put_plan r no_members)) ≡ due_row_data r
unfolding serde_json_on_literals put_plan put_rest due_row_data
in_order r = refl

-- members to which both parts were put
pub all_put : (r : DueRowView) (plan rest : Members) → plan ≡ put_plan r no_members → rest ≡ put_rest r plan → object rest ≡ due_row_data r
all_put r plan rest a b = rw (b, a) (in_order r)

overdue_in_order : (n : ℕ) (r : DueRowView) → object (put_rest r (put_overdue n r no_members)) ≡ overdue_row_data n r
unfolding serde_json_on_literals put_overdue put_rest overdue_row_data
overdue_in_order n r = refl

-- members to which both parts of what is overdue were put
pub overdue_put : (n : ℕ) (r : DueRowView) (first rest : Members) → first ≡ put_overdue n r no_members → rest ≡ put_rest r first → object rest ≡ overdue_row_data n r
overdue_put n r first rest a b = rw (b, a) (overdue_in_order n r)
