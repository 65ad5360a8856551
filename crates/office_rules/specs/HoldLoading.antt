-- When rows of holds and rows of their targets are those of a register of holds. Source: own.
use Rattle.std.specs.Prelude.{◌≡◌, ◌==◌, ℕ, Bool, false, ◌&&◌, ◌||◌, not, nat_le, List, map}
use Rattle.std.specs.FinMap.{entries, get}
use Rattle.std.specs.List.{All, list_any}
use Rattle.std.specs.Str.{bytes_eq}
use Rattle.std.specs.declared.cmp.Ordering.TheVariants.{Less}
use Rattle.office_records.specs.Lists.{is_some_and}
use Rattle.office_records.specs.Tree.{code_cmp}
use Rattle.office_rules.specs.HoldConditions.{target_count}
use Rattle.office_rules.specs.Holds.{HoldMap, has_target}
use Rattle.office_rules.specs.HoldRows.{hold_row}
use Rattle.office_records.specs.declared.hold_row.HoldRow.{HoldRow}
use Rattle.office_records.specs.declared.target.Target.{Target}
use Rattle.office_records.specs.declared.target.Target.TheVariants as target

abbrev pub same_target : Target → Target → Bool
same_target (target.Class code) (target.Class other) = bytes_eq code other
same_target (target.Aggregation a) (target.Aggregation b) = a == b
same_target (target.Record r) (target.Record q) = r == q
same_target _ _ = false

-- a pair of hold and target
abbrev pub is_pair : List ℕ → Target → List ℕ → Target → Bool
is_pair code target other_code other_target = bytes_eq code other_code && same_target target other_target

-- each hold's columns under its code, in the order of the codes
abbrev pub hold_rows : HoldMap → List (List ℕ × HoldRow)
hold_rows holds = map (λ e. (e.0, hold_row e.1)) (entries holds)

-- the rows are each hold's columns in the order of the codes, and which hold has which target, in any order
pub record AreRowsOf (rows : List (List ℕ × HoldRow)) (targets : List (List ℕ × Target)) (holds : HoldMap) : Type 0
  where
    pub columns : hold_rows holds ≡ rows
    pub targets_exist : (code : List ℕ) (target : Target)
        → list_any (λ e. is_pair e.0 e.1 code target) targets
        ≡ is_some_and (get holds code) (λ hold. has_target hold target)

-- the hold is there, and it has the target or room for it
abbrev pub takes_target : HoldMap → List ℕ → Target → Bool
takes_target holds code target =
    is_some_and (get holds code) (λ hold. has_target hold target || not (nat_le 1_000 (target_count hold)))

-- the code is above those of all the holds
abbrev pub IsAbove : HoldMap → List ℕ → Type 0
IsAbove holds code = All (λ q. code_cmp q code ≡ Less) (map (λ e. e.0) (entries holds))
