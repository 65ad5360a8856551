-- How many targets a hold has once one more is put on it, and beside a hold that has them all.
use Rattle.std.proofs.Common.{◌≡◌, ℕ, ◌+◌, ◌≤◌, Bool, true, false, cond, not, ◌||◌, Option, Some, None, List, refl, sym, ap, ◌∙◌, arith}
use Rattle.std.specs.Prelude.{IsSome, nat_le}
use Rattle.std.specs.Cmp.{nat_cmp_total}
use Rattle.std.specs.Cmp.Lexicographic.{nat_list_cmp_total}
use Rattle.std.specs.FinMap.{get, nat_cmp-IsAntisymmetric}
use Rattle.std.specs.FinSet as set
use Rattle.office_records.specs.Lists.{is_some_and}
use Rattle.office_records.proofs.Accepting.{below}
use Rattle.office_rules.specs.HoldConditions.{target_count}
use Rattle.office_rules.specs.HoldEffects.{held_on, with_target}
use Rattle.office_rules.specs.HoldForms.{FitsHoldLimits}
use Rattle.office_rules.specs.HoldLoading.{takes_target}
use Rattle.office_rules.specs.Holds.{HoldMap, HoldState, has_target}
use Rattle.office_records.specs.declared.target.Target.{Target}
use Rattle.office_records.specs.declared.target.Target.TheVariants as target
use Rattle.office_holds.proofs.CoveringRows.{codes_apart}
use Rattle.office_rules.proofs.HoldSoundness.{amended_fits, with_count}
use Rattle.office_holds.proofs.Subsets.{len_within}

-- a hold that has all the targets of another has no fewer
pub count_within : (a b : HoldState) → ((t : Target) → has_target a t ≡ true → has_target b t ≡ true) → target_count a ≤ target_count b
count_within a b all =
    let x = len_within nat_list_cmp_total codes_apart a.classes b.classes (λ q. all (target.Class q)) in
    let y = len_within nat_cmp_total nat_cmp-IsAntisymmetric a.aggregations b.aggregations (λ q. all (target.Aggregation q)) in
    let z = len_within nat_cmp_total nat_cmp-IsAntisymmetric a.records b.records (λ q. all (target.Record q)) in
    omega (arith, x, y, z)

-- a new target is one more
pub count_new : (t : Target) (hold : HoldState) → has_target hold t ≡ false → target_count (with_target t hold) ≡ target_count hold + 1
count_new (target.Class code) hold none = let e = set.len-insert nat_list_cmp_total hold.classes code ∙ ap (λ b. cond b (set.len hold.classes) (set.len hold.classes + 1)) none in omega (arith, e)
count_new (target.Aggregation a) hold none = let e = set.len-insert nat_cmp_total hold.aggregations a ∙ ap (λ b. cond b (set.len hold.aggregations) (set.len hold.aggregations + 1)) none in omega (arith, e)
count_new (target.Record r) hold none = let e = set.len-insert nat_cmp_total hold.records r ∙ ap (λ b. cond b (set.len hold.records) (set.len hold.records + 1)) none in omega (arith, e)

-- and one that is there is none
count_same : (t : Target) (hold : HoldState) → has_target hold t ≡ true → target_count (with_target t hold) ≡ target_count hold
count_same (target.Class code) hold is = let e = set.len-insert nat_list_cmp_total hold.classes code ∙ ap (λ b. cond b (set.len hold.classes) (set.len hold.classes + 1)) is in omega (arith, e)
count_same (target.Aggregation a) hold is = let e = set.len-insert nat_cmp_total hold.aggregations a ∙ ap (λ b. cond b (set.len hold.aggregations) (set.len hold.aggregations + 1)) is in omega (arith, e)
count_same (target.Record r) hold is = let e = set.len-insert nat_cmp_total hold.records r ∙ ap (λ b. cond b (set.len hold.records) (set.len hold.records + 1)) is in omega (arith, e)

is_false : (b : Bool) → not b ≡ true → b ≡ false
is_false true e = absurd cc
is_false false e = refl

taken_by : (t : Target) (hold : HoldState) (b : Bool) → has_target hold t ≡ b → target_count hold ≤ 1_000 → (b || not (nat_le 1_000 (target_count hold))) ≡ true → target_count (with_target t hold) ≤ 1_000
taken_by t hold true is few takes = omega (arith, count_same t hold is, few)
taken_by t hold false is few takes = omega (arith, with_count t hold, below (target_count hold) 1_000 (is_false (nat_le 1_000 (target_count hold)) takes))

-- holds of which one takes a target stay within their limits
pub FitsHoldLimits-taken : (holds : HoldMap) (code : List ℕ) (t : Target) → FitsHoldLimits holds → takes_target holds code t ≡ true → FitsHoldLimits (held_on holds code t)
FitsHoldLimits-taken holds code t fits takes =
    amended_fits holds fits code (with_target t) (λ hold is.
    taken_by t hold (has_target hold t) refl (fits.targets_few code hold is)
    (sym (ap (λ (o : Option HoldState). is_some_and o (λ it. has_target it t || not (nat_le 1_000 (target_count it)))) is) ∙ takes))

-- what takes a target is there
there_by : (o : Option HoldState) (test : HoldState → Bool) → is_some_and o test ≡ true → IsSome o
there_by None test takes = absurd cc
there_by (Some hold) test takes = refl

pub taken_there : (holds : HoldMap) (code : List ℕ) (t : Target) → takes_target holds code t ≡ true → IsSome (get holds code)
taken_there holds code t takes = there_by (get holds code) (λ it. has_target it t || not (nat_le 1_000 (target_count it))) takes
