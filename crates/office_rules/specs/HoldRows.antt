-- The columns of a hold, and the holds with the columns of one put in by its code. Source: own.
use Rattle.std.specs.Prelude.{◌≡◌, List, ℕ, Option, Some, None, IsSome}
use Rattle.std.specs.FinMap.{get, insert}
use Rattle.std.specs.FinSet as set
use Rattle.office_rules.specs.Holds.{HoldMap, HoldState}
use Rattle.office_records.specs.declared.hold_row.HoldRow.{HoldRow}

-- a hold's columns
abbrev pub hold_row : HoldState → HoldRow
hold_row hold = record { reason = hold.reason; placed = hold.placed; placed_by = hold.by; lifted = hold.lifted }

-- a hold's columns with the targets that it has, none at first
abbrev pub hold_from : HoldRow → Option HoldState → HoldState
hold_from row None = record { reason = row.reason; placed = row.placed; by = row.placed_by; lifted = row.lifted; classes = set.empty; aggregations = set.empty; records = set.empty }
hold_from row (Some hold) =
    record hold { reason = row.reason; placed = row.placed; by = row.placed_by; lifted = row.lifted }

-- the columns put in under a code; the targets of a hold that is there stay
abbrev pub put_hold : HoldMap → List ℕ → HoldRow → HoldMap
put_hold holds code row = insert holds code (hold_from row (get holds code))

-- a hold under that code that is lifted has a lifted row put in
abbrev pub StaysLifted : HoldMap → List ℕ → HoldRow → Type 0
StaysLifted holds code row = (hold : HoldState) → get holds code ≡ Some hold → IsSome hold.lifted → IsSome row.lifted
