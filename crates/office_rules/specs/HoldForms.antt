-- When what is in the holds is of its form and within its limits. Source: own.
use Rattle.std.specs.Prelude.{◌≡◌, ◌≤◌, ℕ, List, Some, IfSome, IsTrue}
use Rattle.std.specs.FinMap.{get, len}
use Rattle.std.specs.FinSet.{contains}
use Rattle.office_days.specs.Limits.{IsDayNumber}
use Rattle.office_records.specs.Forms.{IsCode, IsText}
use Rattle.office_rules.specs.HoldConditions.{target_count}
use Rattle.office_rules.specs.Holds.{HoldMap, HoldState}
use Rattle.office_records.specs.declared.target.Target.{Target}
use Rattle.office_records.specs.declared.target.Target.TheVariants as target

-- the texts and days of a hold, and the codes of its classes
pub record IsWellFormedHold (hold : HoldState) : Type 0 where
  pub reason : IsText hold.reason
  pub placed : IsDayNumber hold.placed
  pub by : IsText hold.by
  pub lifted : IfSome hold.lifted IsDayNumber
  pub classes : (code : List ℕ) → IsTrue (contains hold.classes code) → IsCode code

-- every code, text and day of the holds is of its form
abbrev pub AreWellFormedHolds : HoldMap → Type 0
AreWellFormedHolds holds =
    (code : List ℕ) (hold : HoldState) → get holds code ≡ Some hold → IsCode code × IsWellFormedHold hold

-- at most 1,000 holds, each with at most 1,000 targets
pub record FitsHoldLimits (holds : HoldMap) : Type 0 where
  pub holds_few : len holds ≤ 1_000
  pub targets_few : (code : List ℕ) (hold : HoldState) → get holds code ≡ Some hold → target_count hold ≤ 1_000

-- the form of a target: the code of a class
abbrev pub IsWellFormedTarget : Target → Type 0
IsWellFormedTarget (target.Class code) = IsCode code
IsWellFormedTarget (target.Aggregation a) = Unit {0}
IsWellFormedTarget (target.Record r) = Unit {0}
