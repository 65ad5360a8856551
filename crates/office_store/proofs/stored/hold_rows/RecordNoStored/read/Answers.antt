use Rattle.std.proofs.Common.{◌≡◌, ℕ, pos, List, length, Result, Ok, Err, IfOk, OnOk}
use Rattle.sqlite_value.specs.declared.value.Value.{Value}
use Rattle.sqlite_value.specs.declared.value.Value.TheVariants.{Int}
use Rattle.office_sql.specs.Values.{Has}
use Rattle.office_store.specs.Stored.{IsNumber, IsRowOf, number_row}
use Rattle.office_store.proofs.WholeRows.{whole_row}
use Rattle.office_store.proofs.stored.hold_rows.RecordNoStored.read.Goals as goal

-- a row of one number
row_of_number : {E : Type 0} (row : List Value) (r : Result ℕ E) → length row ≡ 1 → IfOk r (λ n. Has row 0 (Int (pos n))) → IfOk r (λ n. row ≡ number_row n)
row_of_number row (Ok n) e h = whole_row row (number_row n) e (h, tt)
row_of_number row (Err e) _ _ = tt

pub returns-clause-ok : goal.returns-clause-ok
returns-clause-ok c = row_of_number c.args.row.now c.entity_number.result c.in_ok-has_columns.ensures.ok c.entity_number.ensures.ok

-- and it is of its form where the number is
number_formed : {E : Type 0} (row : List Value) (r : Result ℕ E) → IfOk r (λ n. row ≡ number_row n) → IfOk r IsNumber → OnOk r (IsRowOf number_row IsNumber row)
number_formed row (Ok n) is few = (n, few, is)
number_formed row (Err e) _ _ = tt

pub returns-clause-formed : goal.returns-clause-formed
returns-clause-formed c = number_formed c.args.row.now c.entity_number.result (returns-clause-ok c) c.entity_number.ensures.formed
