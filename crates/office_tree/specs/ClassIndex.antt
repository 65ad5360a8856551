-- The records of each class, so that they are gone through without the others. Source: own.
use Rattle.std.specs.Prelude.{◌≡◌, ◌<◌, ◌≤◌, ℕ, List, length, Some, IsSome}
use Rattle.std.specs.FinMap.{FinMap, get}
use Rattle.std.specs.Option.{option_and_then}
use Rattle.office_records.specs.Lists.{numbered}
use Rattle.office_records.specs.Tree.{code_cmp, class_in}
use Rattle.office_records.specs.declared.aggregation.Aggregation.{Aggregation}
use Rattle.office_records.specs.declared.class.Class.{Class}
use Rattle.office_records.specs.declared.head.Record.{Record}

-- the number under each class's code
abbrev pub NumberMap : Type 0
NumberMap = FinMap code_cmp ℕ

-- each class keeps its number
abbrev pub StayNamed : NumberMap → NumberMap → Type 0
StayNamed old new = (code : List ℕ) (n : ℕ) → get old code ≡ Some n → get new code ≡ Some n

-- the number is that of the record's class
abbrev pub IsOfClass : NumberMap → List Aggregation → List Record → ℕ → ℕ → Type 0
IsOfClass numbers aggregations records r class =
    option_and_then (get numbers) (class_in aggregations records r) ≡ Some class

-- each class has a number, and a list under it
pub record HaveNumbers (classes : FinMap code_cmp Class) (numbers : NumberMap) (count : ℕ) : Type 0 where
  pub each : (code : List ℕ) → IsSome (get classes code) → IsSome (get numbers code)
  pub within : (code : List ℕ) (n : ℕ) → get numbers code ≡ Some n → (0 < n) × (n ≤ count)

-- the classes have numbers, so many have lists, and each record is on the list of its class
pub record AreListed (classes : FinMap code_cmp Class) (aggregations : List Aggregation) (records : List Record)
    (numbers : NumberMap) (lists : ℕ) (class : List ℕ) : Type 0 where
  pub numbers_agree : HaveNumbers classes numbers lists
  pub count : length class ≡ length records
  pub each : (r c : ℕ) → numbered class r ≡ Some c → IsOfClass numbers aggregations records r c
