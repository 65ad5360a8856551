-- The codes of schedules by their numbers, so that a record's schedule in effect is cached as a number. Source: own.
use Rattle.std.specs.Prelude.{◌≡◌, ℕ, List, Some, IsSome}
use Rattle.std.specs.FinMap.{FinMap, get}
use Rattle.office_records.specs.Lists.{numbered}
use Rattle.office_records.specs.Tree.{code_cmp}
use Rattle.office_records.specs.declared.schedule.Schedule.{Schedule}

-- the code has a number
abbrev pub IsAmong : List (List ℕ) → List ℕ → Type 0
IsAmong codes code = (n : ℕ) × (numbered codes n ≡ Some code)

-- the code of each schedule has one
abbrev pub AreNumbered : FinMap code_cmp Schedule → List (List ℕ) → Type 0
AreNumbered schedules codes = (code : List ℕ) → IsSome (get schedules code) → IsAmong codes code

-- each code keeps its number
abbrev pub StayNumbered : List (List ℕ) → List (List ℕ) → Type 0
StayNumbered old new = (n : ℕ) (code : List ℕ) → numbered old n ≡ Some code → numbered new n ≡ Some code
