-- What soundness asks of holds, each item over the parts that it speaks of. Source: own.
use Rattle.std.specs.Prelude.{◌≡◌, ◌<◌, ◌≤◌, ◌≤ℤ◌, ℕ, List, Some, IsSome, IsTrue, IfSome, ℤ}
use Rattle.std.specs.FinMap.{FinMap, get}
use Rattle.std.specs.FinSet.{contains}
use Rattle.office_records.specs.Tree.{code_cmp}
use Rattle.office_records.specs.declared.class.Class.{Class}
use Rattle.office_rules.specs.Holds.{HoldMap, HoldState}

-- the targets of a hold are there, among so many aggregations and records
pub record TargetsAreThere (classes : FinMap code_cmp Class) (aggregation_count record_count : ℕ) (hold : HoldState) :
    Type 0 where
  pub class_targets : (code : List ℕ) → IsTrue (contains hold.classes code) → IsSome (get classes code)
  pub aggregation_targets : (a : ℕ) → IsTrue (contains hold.aggregations a) → (0 < a) × (a ≤ aggregation_count)
  pub record_targets : (r : ℕ) → IsTrue (contains hold.records r) → (0 < r) × (r ≤ record_count)

-- every target of every hold is there
abbrev pub TargetsExist : HoldMap → FinMap code_cmp Class → ℕ → ℕ → Type 0
TargetsExist holds classes aggregation_count record_count =
    (code : List ℕ) (hold : HoldState) → get holds code ≡ Some hold
    → TargetsAreThere classes aggregation_count record_count hold

-- no day of placing or lifting is after a day
abbrev pub NoHoldIsAfter : HoldMap → ℤ → Type 0
NoHoldIsAfter holds day =
    (code : List ℕ) (hold : HoldState) → get holds code ≡ Some hold
    → (hold.placed ≤ℤ day) × IfSome hold.lifted (λ lifted. lifted ≤ℤ day)
