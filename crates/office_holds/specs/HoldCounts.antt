-- What is derived beside the holds, and when it agrees with them. Source: own.
use Rattle.std.specs.Prelude.{◌≡◌, ◌+◌, ◌-◌, ℕ, Bool, ◌&&◌, not, nat_lt, List, length, filter, Some, IsTrue}
use Rattle.std.specs.Ordering.{nat_cmp}
use Rattle.std.specs.BTreeMap.{ContainsKey}
use Rattle.std.specs.FinMap.{get, values}
use Rattle.std.specs.FinSet.{FinSet, contains}
use Rattle.office_records.specs.Lists.{is_some_and}
use Rattle.office_records.specs.Tree.{code_cmp}
use Rattle.office_rules.specs.Holds.{HoldMap, HoldState, has_target, is_in_force}
use Rattle.office_holds.specs.Numbers.{number_at, one_if}
use Rattle.office_holds.specs.declared.counts.HoldCounts.{HoldCounts}
use Rattle.office_records.specs.declared.target.Target.{Target}
use Rattle.office_records.specs.declared.target.Target.TheVariants as target

-- ---- holds that count

-- the hold is in force and has the target
abbrev pub binds : Target → HoldState → Bool
binds target hold = is_in_force hold && has_target hold target

-- how many holds in force have the target
unfoldable pub binding_count : HoldMap → Target → ℕ
binding_count holds target = length (filter (binds target) (values holds))

-- the hold of that code is there and in force, and has the target
abbrev pub binds_at : HoldMap → List ℕ → Target → Bool
binds_at holds code target = is_some_and (get holds code) (binds target)

-- the hold of that code is there and in force, and has not the target yet
abbrev pub may_gain : HoldMap → List ℕ → Target → Bool
may_gain holds code target = is_some_and (get holds code) (λ hold. is_in_force hold && not (has_target hold target))

-- ---- what is cached

-- the cached count of a target
abbrev pub cached_count : HoldCounts → Target → ℕ
cached_count counts (target.Class code) = number_at code_cmp counts.classes code
cached_count counts (target.Aggregation a) = number_at nat_cmp counts.aggregations a
cached_count counts (target.Record r) = number_at nat_cmp counts.records r

-- by the cached counts, a hold in force has the target
abbrev pub is_bound : HoldCounts → Target → Bool
is_bound counts target = nat_lt 0 (cached_count counts target)

-- a count is cached of the target, if only 0
abbrev pub HasRoom : HoldCounts → Target → Type 0
HasRoom counts (target.Class code) = ContainsKey code_cmp counts.classes code
HasRoom counts (target.Aggregation a) = ContainsKey nat_cmp counts.aggregations a
HasRoom counts (target.Record r) = ContainsKey nat_cmp counts.records r

-- the counts of these targets are one more, and every other stays
abbrev pub CountsUp : HoldCounts → HoldCounts → (Target → Bool) → Type 0
CountsUp old new these = (target : Target) → cached_count new target ≡ cached_count old target + one_if (these target)

-- the counts of these targets are one less, and every other stays
abbrev pub CountsDown : HoldCounts → HoldCounts → (Target → Bool) → Type 0
CountsDown old new these = (target : Target) → cached_count new target ≡ cached_count old target - one_if (these target)

-- each hold in force has its code among these
abbrev pub HasInForce : HoldMap → FinSet code_cmp → Type 0
HasInForce holds codes =
    (code : List ℕ) (hold : HoldState) → get holds code ≡ Some hold → IsTrue (is_in_force hold)
    → IsTrue (contains codes code)

-- the cached count of each target is how many holds in force have it, and the cached codes have those of the holds in
-- force among them
pub record AreCached (holds : HoldMap) (counts : HoldCounts) (codes : FinSet code_cmp) : Type 0 where
  pub counted : (target : Target) → cached_count counts target ≡ binding_count holds target
  pub in_force : HasInForce holds codes
