-- What an act of which no condition holds keeps of the soundness of the holds.
use Rattle.std.proofs.Common.{◌≡◌, ℕ, ◌+◌, ◌-◌, ◌<◌, ◌≤◌, ◌≤ℤ◌, ℤ, List, Bool, true, false, cond, ◌&&◌, ◌||◌, not, Option, Some, None, refl, sym, ap, subst, ◌∙◌, ◌⊎◌, inl, inr, arith}
use Rattle.std.specs.Prelude.{IsSome, IfSome, nat_le}
use Rattle.std.specs.Ordering.{nat_cmp, eq_by_cmp}
use Rattle.std.specs.Option.{is_some}
use Rattle.std.specs.declared.cmp.Ordering.{Ordering}
use Rattle.std.specs.Cmp.{IsTotalOrder, Equal-is, nat_cmp_total}
use Rattle.std.specs.Cmp.Lexicographic.{nat_list_cmp_total}
use Rattle.std.specs.FinMap.{FinMap, empty, get, insert, len, len-empty, get-empty, IsAntisymmetric, slice_cmp-IsAntisymmetric, nat_cmp-IsAntisymmetric}
use Rattle.std.specs.FinSet as set
use Rattle.std.specs.FinSet.{FinSet, contains, contains-empty, contains-insert, contains-remove}
use Rattle.std.specs.Int.Signed.{≤ℤ_refl}
use Rattle.std.proofs.lemmas.Int.{ints}
use Rattle.office_days.specs.Limits.{IsDayNumber}
use Rattle.office_records.specs.Conditions.{first_of}
use Rattle.office_records.specs.Forms.{IsCode, IsText}
use Rattle.office_records.specs.Lists.{amended, is_some_and}
use Rattle.office_records.specs.Tree.{code_cmp}
use Rattle.office_records.specs.declared.class.Class.{Class}
use Rattle.office_records.proofs.Accepting.{none_holds, below}
use Rattle.office_records.proofs.Inserting.{len-insert_free}
use Rattle.office_rules.specs.HoldConditions.{target_count, has_all_targets, conditions_of_place_hold, conditions_of_hold_on}
use Rattle.office_rules.specs.HoldEffects.{new_hold, placed_hold, with_target, without_target, held_on, held_off, lifted_hold}
use Rattle.office_rules.specs.HoldForms.{IsWellFormedHold, AreWellFormedHolds, FitsHoldLimits, IsWellFormedTarget}
use Rattle.office_rules.specs.Holds.{HoldMap, HoldState}
use Rattle.office_rules.specs.HoldRows.{StaysLifted, hold_from, put_hold}
use Rattle.office_records.specs.declared.hold_row.HoldRow.{HoldRow}
use Rattle.office_rules.specs.SoundHolds.{TargetsAreThere, TargetsExist, NoHoldIsAfter}
use Rattle.office_records.specs.declared.target.Target.{Target}
use Rattle.office_records.specs.declared.target.Target.TheVariants as target
use Rattle.office_records.proofs.Inserting.{len-amended}
use Rattle.office_rules.proofs.AmendedHolds.{OfEach-insert, OfEach-amended}

-- ---- what is in a set after a change

one_of : (a b : Bool) → (a || b) ≡ true → (a ≡ true) ⊎ (b ≡ true)
one_of true b e = inl refl
one_of false b e = inr e

second : (a b : Bool) → (a && b) ≡ true → b ≡ true
second true b e = e
second false b e = absurd cc

none_in : {K : Type 0} (R : K → K → Ordering) (P : Type 0) (q : K) → contains (set.empty {R = R}) q ≡ true → P
none_in R P q h = let none = contains-empty R q in absurd cc

at_most_one_more : (b : Bool) (n : ℕ) → cond b n (n + 1) ≤ n + 1
at_most_one_more true n = omega arith
at_most_one_more false n = omega arith

at_most : (b : Bool) (n : ℕ) → cond b (n - 1) n ≤ n
at_most true n = omega arith
at_most false n = omega arith

module _ {K : Type 0} {R : K → K → Ordering} (o : IsTotalOrder R) where
  in_insert : IsAntisymmetric R → (s : FinSet R) (k q : K) → contains (set.insert s k) q ≡ true → (k ≡ q) ⊎ (contains s q ≡ true)
  in_insert same s k q h = elim (one_of (eq_by_cmp R q k) (contains s q) (sym (contains-insert o s k q) ∙ h)) [ inl tie ↦ inl (sym (same q k ((Equal-is (R q k)).0 tie))) | inr old ↦ inr old ]

  in_remove : (s : FinSet R) (k q : K) → contains (set.remove s k) q ≡ true → contains s q ≡ true
  in_remove s k q h = second (not (eq_by_cmp R q k)) (contains s q) (sym (contains-remove o s k q) ∙ h)

  len_more : (s : FinSet R) (k : K) → set.len (set.insert s k) ≤ set.len s + 1
  len_more s k = subst (λ n. n ≤ set.len s + 1) (sym (set.len-insert o s k)) (at_most_one_more (contains s k) (set.len s))

  len_less : (s : FinSet R) (k : K) → set.len (set.remove s k) ≤ set.len s
  len_less s k = subst (λ n. n ≤ set.len s) (sym (set.len-remove o s k)) (at_most (contains s k) (set.len s))

code_in_insert : (s : FinSet code_cmp) (k q : List ℕ) → contains (set.insert s k) q ≡ true → (k ≡ q) ⊎ (contains s q ≡ true)
code_in_insert = in_insert nat_list_cmp_total (slice_cmp-IsAntisymmetric nat_cmp-IsAntisymmetric)

number_in_insert : (s : FinSet nat_cmp) (k q : ℕ) → contains (set.insert s k) q ≡ true → (k ≡ q) ⊎ (contains s q ≡ true)
number_in_insert = in_insert nat_cmp_total nat_cmp-IsAntisymmetric

-- ---- that the targets are there

-- a target that is there, among so many aggregations and records
abbrev pub TargetIsThere : FinMap code_cmp Class → ℕ → ℕ → Target → Type 0
TargetIsThere classes aggregation_count record_count (target.Class code) = IsSome (get classes code)
TargetIsThere classes aggregation_count record_count (target.Aggregation a) = (0 < a) × (a ≤ aggregation_count)
TargetIsThere classes aggregation_count record_count (target.Record r) = (0 < r) × (r ≤ record_count)

none_there : (classes : FinMap code_cmp Class) (aggregation_count record_count : ℕ) (day : ℤ) (reason by : List ℕ) → TargetsAreThere classes aggregation_count record_count (new_hold day reason by)
none_there classes aggregation_count record_count day reason by = record {
  class_targets = λ code. none_in code_cmp (IsSome (get classes code)) code;
  aggregation_targets = λ a. none_in nat_cmp ((0 < a) × (a ≤ aggregation_count)) a;
  record_targets = λ r. none_in nat_cmp ((0 < r) × (r ≤ record_count)) r;
}

with_there : (classes : FinMap code_cmp Class) (aggregation_count record_count : ℕ) (target : Target) (hold : HoldState)
    → TargetIsThere classes aggregation_count record_count target → TargetsAreThere classes aggregation_count record_count hold → TargetsAreThere classes aggregation_count record_count (with_target target hold)
with_there classes aggregation_count record_count (target.Class new) hold there old = record {
  class_targets = λ code on. elim (code_in_insert hold.classes new code on) [ inl same ↦ subst (λ c. IsSome (get classes c)) same there | inr before ↦ old.class_targets code before ];
  aggregation_targets = old.aggregation_targets;
  record_targets = old.record_targets;
}
with_there classes aggregation_count record_count (target.Aggregation new) hold there old = record {
  class_targets = old.class_targets;
  aggregation_targets = λ a on. elim (number_in_insert hold.aggregations new a on) [ inl same ↦ subst (λ n. (0 < n) × (n ≤ aggregation_count)) same there | inr before ↦ old.aggregation_targets a before ];
  record_targets = old.record_targets;
}
with_there classes aggregation_count record_count (target.Record new) hold there old = record {
  class_targets = old.class_targets;
  aggregation_targets = old.aggregation_targets;
  record_targets = λ r on. elim (number_in_insert hold.records new r on) [ inl same ↦ subst (λ n. (0 < n) × (n ≤ record_count)) same there | inr before ↦ old.record_targets r before ];
}

without_there : (classes : FinMap code_cmp Class) (aggregation_count record_count : ℕ) (target : Target) (hold : HoldState)
    → TargetsAreThere classes aggregation_count record_count hold → TargetsAreThere classes aggregation_count record_count (without_target target hold)
without_there classes aggregation_count record_count (target.Class gone) hold old = record {
  class_targets = λ code on. old.class_targets code (in_remove nat_list_cmp_total hold.classes gone code on);
  aggregation_targets = old.aggregation_targets;
  record_targets = old.record_targets;
}
without_there classes aggregation_count record_count (target.Aggregation gone) hold old = record {
  class_targets = old.class_targets;
  aggregation_targets = λ a on. old.aggregation_targets a (in_remove nat_cmp_total hold.aggregations gone a on);
  record_targets = old.record_targets;
}
without_there classes aggregation_count record_count (target.Record gone) hold old = record {
  class_targets = old.class_targets;
  aggregation_targets = old.aggregation_targets;
  record_targets = λ r on. old.record_targets r (in_remove nat_cmp_total hold.records gone r on);
}

module _ (holds : HoldMap) (classes : FinMap code_cmp Class) (aggregation_count record_count : ℕ) (represent : TargetsExist holds classes aggregation_count record_count) where
  pub TargetsExist-placed_hold : (day : ℤ) (code reason by : List ℕ) → TargetsExist (placed_hold holds day code reason by) classes aggregation_count record_count
  TargetsExist-placed_hold day code reason by =
      OfEach-insert (λ _ hold. TargetsAreThere classes aggregation_count record_count hold) holds code (new_hold day reason by) represent (none_there classes aggregation_count record_count day reason by)

  pub TargetsExist-held_on : (code : List ℕ) (target : Target) → TargetIsThere classes aggregation_count record_count target → TargetsExist (held_on holds code target) classes aggregation_count record_count
  TargetsExist-held_on code target there =
      OfEach-amended (λ _ hold. TargetsAreThere classes aggregation_count record_count hold) holds code (with_target target) represent (λ hold is. with_there classes aggregation_count record_count target hold there (represent code hold is))

  pub TargetsExist-held_off : (code : List ℕ) (target : Target) → TargetsExist (held_off holds code target) classes aggregation_count record_count
  TargetsExist-held_off code target =
      OfEach-amended (λ _ hold. TargetsAreThere classes aggregation_count record_count hold) holds code (without_target target) represent (λ hold is. without_there classes aggregation_count record_count target hold (represent code hold is))

  pub TargetsExist-lifted_hold : (day : ℤ) (code : List ℕ) → TargetsExist (lifted_hold holds day code) classes aggregation_count record_count
  TargetsExist-lifted_hold day code =
      OfEach-amended (λ _ hold. TargetsAreThere classes aggregation_count record_count hold) holds code (λ hold. record hold { lifted = Some day }) represent
      (λ hold is. let old = represent code hold is in record { class_targets = old.class_targets; aggregation_targets = old.aggregation_targets; record_targets = old.record_targets })

-- they are there still where no class goes and there are no fewer aggregations and records
pub TargetsExist-more : (holds : HoldMap) (classes more : FinMap code_cmp Class) (aggregation_count record_count aggregations_now records_now : ℕ) → TargetsExist holds classes aggregation_count record_count
    → ((code : List ℕ) → IsSome (get classes code) → IsSome (get more code)) → aggregation_count ≤ aggregations_now → record_count ≤ records_now → TargetsExist holds more aggregations_now records_now
TargetsExist-more holds classes more aggregation_count record_count aggregations_now records_now represent keeps up_a up_r code hold is =
    let old = represent code hold is in
    record {
      class_targets = λ c on. keeps c (old.class_targets c on);
      aggregation_targets = λ a on. let it = old.aggregation_targets a on in (it.0, omega (arith, it.1, up_a));
      record_targets = λ r on. let it = old.record_targets r on in (it.0, omega (arith, it.1, up_r));
    }

-- ---- the forms

new_well_formed : (day : ℤ) (reason by : List ℕ) → IsText reason → IsText by → IsDayNumber day → IsWellFormedHold (new_hold day reason by)
new_well_formed day reason by reason_is by_is day_is = record {
  reason = reason_is;
  placed = day_is;
  by = by_is;
  lifted = tt;
  classes = λ code. none_in code_cmp (IsCode code) code;
}

with_well_formed : (target : Target) (hold : HoldState) → IsWellFormedTarget target → IsWellFormedHold hold → IsWellFormedHold (with_target target hold)
with_well_formed (target.Class new) hold form old = record {
  reason = old.reason;
  placed = old.placed;
  by = old.by;
  lifted = old.lifted;
  classes = λ code on. elim (code_in_insert hold.classes new code on) [ inl same ↦ subst IsCode same form | inr before ↦ old.classes code before ];
}
with_well_formed (target.Aggregation new) hold form old = record { reason = old.reason; placed = old.placed; by = old.by; lifted = old.lifted; classes = old.classes }
with_well_formed (target.Record new) hold form old = record { reason = old.reason; placed = old.placed; by = old.by; lifted = old.lifted; classes = old.classes }

without_well_formed : (target : Target) (hold : HoldState) → IsWellFormedHold hold → IsWellFormedHold (without_target target hold)
without_well_formed (target.Class gone) hold old = record {
  reason = old.reason;
  placed = old.placed;
  by = old.by;
  lifted = old.lifted;
  classes = λ code on. old.classes code (in_remove nat_list_cmp_total hold.classes gone code on);
}
without_well_formed (target.Aggregation gone) hold old = record { reason = old.reason; placed = old.placed; by = old.by; lifted = old.lifted; classes = old.classes }
without_well_formed (target.Record gone) hold old = record { reason = old.reason; placed = old.placed; by = old.by; lifted = old.lifted; classes = old.classes }

abbrev IsWellFormedAt : List ℕ → HoldState → Type 0
IsWellFormedAt code hold = IsCode code × IsWellFormedHold hold

module _ (holds : HoldMap) (formed : AreWellFormedHolds holds) where
  pub AreWellFormedHolds-placed_hold : (day : ℤ) (code reason by : List ℕ) → IsCode code → IsText reason → IsText by → IsDayNumber day → AreWellFormedHolds (placed_hold holds day code reason by)
  AreWellFormedHolds-placed_hold day code reason by code_is reason_is by_is day_is =
      OfEach-insert IsWellFormedAt holds code (new_hold day reason by) formed (code_is, new_well_formed day reason by reason_is by_is day_is)

  pub AreWellFormedHolds-held_on : (code : List ℕ) (target : Target) → IsWellFormedTarget target → AreWellFormedHolds (held_on holds code target)
  AreWellFormedHolds-held_on code target form =
      OfEach-amended IsWellFormedAt holds code (with_target target) formed (λ hold is. let old = formed code hold is in (old.0, with_well_formed target hold form old.1))

  pub AreWellFormedHolds-held_off : (code : List ℕ) (target : Target) → AreWellFormedHolds (held_off holds code target)
  AreWellFormedHolds-held_off code target =
      OfEach-amended IsWellFormedAt holds code (without_target target) formed (λ hold is. let old = formed code hold is in (old.0, without_well_formed target hold old.1))

  pub AreWellFormedHolds-lifted_hold : (day : ℤ) (code : List ℕ) → IsDayNumber day → AreWellFormedHolds (lifted_hold holds day code)
  AreWellFormedHolds-lifted_hold day code day_is =
      OfEach-amended IsWellFormedAt holds code (λ hold. record hold { lifted = Some day }) formed
      (λ hold is. let old = formed code hold is in (old.0, record { reason = old.1.reason; placed = old.1.placed; by = old.1.by; lifted = day_is; classes = old.1.classes }))

-- ---- the limits

new_count : (day : ℤ) (reason by : List ℕ) → target_count (new_hold day reason by) ≤ 1_000
new_count day reason by = let none = set.len-empty code_cmp in let no_number = set.len-empty nat_cmp in omega (arith, none, no_number)

pub with_count : (target : Target) (hold : HoldState) → target_count (with_target target hold) ≤ target_count hold + 1
with_count (target.Class code) hold = omega (arith, len_more nat_list_cmp_total hold.classes code)
with_count (target.Aggregation a) hold = omega (arith, len_more nat_cmp_total hold.aggregations a)
with_count (target.Record r) hold = omega (arith, len_more nat_cmp_total hold.records r)

without_count : (target : Target) (hold : HoldState) → target_count (without_target target hold) ≤ target_count hold
without_count (target.Class code) hold = omega (arith, len_less nat_list_cmp_total hold.classes code)
without_count (target.Aggregation a) hold = omega (arith, len_less nat_cmp_total hold.aggregations a)
without_count (target.Record r) hold = omega (arith, len_less nat_cmp_total hold.records r)

-- a hold that is there has room for a target
has_room : (holds : HoldMap) (code : List ℕ) (hold : HoldState) → get holds code ≡ Some hold → has_all_targets holds code ≡ false → target_count hold < 1_000
has_room holds code hold is room = below (target_count hold) 1_000 (sym (ap (λ (o : Option HoldState). is_some_and o (λ it. nat_le 1_000 (target_count it))) is) ∙ room)

abbrev pub HasFewTargets : List ℕ → HoldState → Type 0
HasFewTargets code hold = target_count hold ≤ 1_000

pub FitsHoldLimits-empty : FitsHoldLimits empty
FitsHoldLimits-empty = record {
  holds_few = let none = len-empty code_cmp HoldState in omega (arith, none);
  targets_few = λ code hold is. let none = get-empty {X = HoldState} code_cmp code in absurd cc;
}

module _ (holds : HoldMap) (fits : FitsHoldLimits holds) where
  pub FitsHoldLimits-placed_hold : (day : ℤ) (code reason by : List ℕ) → first_of (conditions_of_place_hold holds code) ≡ None → FitsHoldLimits (placed_hold holds day code reason by)
  FitsHoldLimits-placed_hold day code reason by none =
      let h = none_holds (conditions_of_place_hold holds code) none in
      let one_more = len-insert_free holds code (new_hold day reason by) h.0 in
      let room : len holds < 1_000 = below (len holds) 1_000 h.1.0 in
      record { holds_few = omega (arith, one_more, room); targets_few = OfEach-insert HasFewTargets holds code (new_hold day reason by) fits.targets_few (new_count day reason by) }

  pub amended_fits : (code : List ℕ) (change : HoldState → HoldState) → ((hold : HoldState) → get holds code ≡ Some hold → target_count (change hold) ≤ 1_000) → FitsHoldLimits (amended holds code change)
  amended_fits code change few = record { holds_few = subst (λ n. n ≤ 1_000) (sym (len-amended holds code change)) fits.holds_few; targets_few = OfEach-amended HasFewTargets holds code change fits.targets_few few }

  pub FitsHoldLimits-held_on : (code : List ℕ) (target : Target) → first_of (conditions_of_hold_on holds code target) ≡ None → FitsHoldLimits (held_on holds code target)
  FitsHoldLimits-held_on code target none =
      let h = none_holds (conditions_of_hold_on holds code target) none in
      amended_fits code (with_target target) (λ hold is. omega (arith, with_count target hold, has_room holds code hold is h.1.1.0))

  pub FitsHoldLimits-held_off : (code : List ℕ) (target : Target) → FitsHoldLimits (held_off holds code target)
  FitsHoldLimits-held_off code target = amended_fits code (without_target target) (λ hold is. omega (arith, without_count target hold, fits.targets_few code hold is))

  pub FitsHoldLimits-lifted_hold : (day : ℤ) (code : List ℕ) → FitsHoldLimits (lifted_hold holds day code)
  FitsHoldLimits-lifted_hold day code = amended_fits code (λ hold. record hold { lifted = Some day }) (λ hold is. fits.targets_few code hold is)

none_of : {A : Type 0} (o : Option A) → is_some o ≡ false → o ≡ None
none_of None e = refl
none_of (Some x) e = absurd cc

abbrev placed_row : ℤ → List ℕ → List ℕ → HoldRow
placed_row day reason by = record { reason = reason; placed = day; placed_by = by; lifted = None }

-- the columns of a new hold put in under a free code place it
pub placed_by_put : (holds : HoldMap) (day : ℤ) (code reason by : List ℕ) → first_of (conditions_of_place_hold holds code) ≡ None → put_hold holds code (placed_row day reason by) ≡ placed_hold holds day code reason by
placed_by_put holds day code reason by none =
    ap (λ o. insert holds code (hold_from (placed_row day reason by) o)) (none_of (get holds code) (none_holds (conditions_of_place_hold holds code) none).0)

-- and no hold that is lifted is under such a code
pub StaysLifted-free : (holds : HoldMap) (code : List ℕ) (row : HoldRow) → first_of (conditions_of_place_hold holds code) ≡ None → StaysLifted holds code row
StaysLifted-free holds code row none hold is lifted = let free = none_of (get holds code) (none_holds (conditions_of_place_hold holds code) none).0 in absurd cc

-- ---- the days

no_later : (a b c : ℤ) → a ≤ℤ b → b ≤ℤ c → a ≤ℤ c
no_later a b c h g = omega (arith, ints)

lifted_by : (before day : ℤ) (o : Option ℤ) → before ≤ℤ day → IfSome o (λ lifted. lifted ≤ℤ before) → IfSome o (λ lifted. lifted ≤ℤ day)
lifted_by before day None up h = tt
lifted_by before day (Some lifted) up h = no_later lifted before day h up

abbrev IsByDay : ℤ → List ℕ → HoldState → Type 0
IsByDay day code hold = (hold.placed ≤ℤ day) × IfSome hold.lifted (λ lifted. lifted ≤ℤ day)

with_days : (day : ℤ) (code : List ℕ) (target : Target) (hold : HoldState) → IsByDay day code hold → IsByDay day code (with_target target hold)
with_days day code (target.Class new) hold h = h
with_days day code (target.Aggregation new) hold h = h
with_days day code (target.Record new) hold h = h

without_days : (day : ℤ) (code : List ℕ) (target : Target) (hold : HoldState) → IsByDay day code hold → IsByDay day code (without_target target hold)
without_days day code (target.Class gone) hold h = h
without_days day code (target.Aggregation gone) hold h = h
without_days day code (target.Record gone) hold h = h

module _ (holds : HoldMap) (before day : ℤ) (none : NoHoldIsAfter holds before) (up : before ≤ℤ day) where
  pub NoHoldIsAfter-later : NoHoldIsAfter holds day
  NoHoldIsAfter-later code hold is = let old = none code hold is in (no_later hold.placed before day old.0 up, lifted_by before day hold.lifted up old.1)

  pub NoHoldIsAfter-placed_hold : (code reason by : List ℕ) → NoHoldIsAfter (placed_hold holds day code reason by) day
  NoHoldIsAfter-placed_hold code reason by = OfEach-insert (IsByDay day) holds code (new_hold day reason by) NoHoldIsAfter-later (≤ℤ_refl day, tt)

  pub NoHoldIsAfter-held_on : (code : List ℕ) (target : Target) → NoHoldIsAfter (held_on holds code target) day
  NoHoldIsAfter-held_on code target = OfEach-amended (IsByDay day) holds code (with_target target) NoHoldIsAfter-later (λ hold is. with_days day code target hold (NoHoldIsAfter-later code hold is))

  pub NoHoldIsAfter-held_off : (code : List ℕ) (target : Target) → NoHoldIsAfter (held_off holds code target) day
  NoHoldIsAfter-held_off code target = OfEach-amended (IsByDay day) holds code (without_target target) NoHoldIsAfter-later (λ hold is. without_days day code target hold (NoHoldIsAfter-later code hold is))

  pub NoHoldIsAfter-lifted_hold : (code : List ℕ) → NoHoldIsAfter (lifted_hold holds day code) day
  NoHoldIsAfter-lifted_hold code = OfEach-amended (IsByDay day) holds code (λ hold. record hold { lifted = Some day }) NoHoldIsAfter-later (λ hold is. ((NoHoldIsAfter-later code hold is).0, ≤ℤ_refl day))
