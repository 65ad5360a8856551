-- What each accepted act makes of the holds. Source: MoReq2010, its disposal holding service.
use Rattle.std.specs.Prelude.{ℕ, List, Some, None, ℤ}
use Rattle.std.specs.FinMap.{insert}
use Rattle.std.specs.FinSet as set
use Rattle.office_records.specs.Lists.{amended}
use Rattle.office_rules.specs.Holds.{HoldMap, HoldState}
use Rattle.office_records.specs.declared.target.Target.{Target}
use Rattle.office_records.specs.declared.target.Target.TheVariants as target

-- a new hold, not lifted, without targets
abbrev pub new_hold : ℤ → List ℕ → List ℕ → HoldState
new_hold day reason by = record { reason = reason; placed = day; by = by; lifted = None; classes = set.empty; aggregations = set.empty; records = set.empty }

abbrev pub placed_hold : HoldMap → ℤ → List ℕ → List ℕ → List ℕ → HoldMap
placed_hold holds day code reason by = insert holds code (new_hold day reason by)

abbrev pub with_target : Target → HoldState → HoldState
with_target (target.Class code) hold = record hold { classes = set.insert hold.classes code }
with_target (target.Aggregation a) hold = record hold { aggregations = set.insert hold.aggregations a }
with_target (target.Record r) hold = record hold { records = set.insert hold.records r }

abbrev pub without_target : Target → HoldState → HoldState
without_target (target.Class code) hold = record hold { classes = set.remove hold.classes code }
without_target (target.Aggregation a) hold = record hold { aggregations = set.remove hold.aggregations a }
without_target (target.Record r) hold = record hold { records = set.remove hold.records r }

-- a target put in
abbrev pub held_on : HoldMap → List ℕ → Target → HoldMap
held_on holds code target = amended holds code (with_target target)

-- a target taken out
abbrev pub held_off : HoldMap → List ℕ → Target → HoldMap
held_off holds code target = amended holds code (without_target target)

-- a hold lifted on a day; its targets stay
abbrev pub lifted_hold : HoldMap → ℤ → List ℕ → HoldMap
lifted_hold holds day code = amended holds code (λ hold. record hold { lifted = Some day })
