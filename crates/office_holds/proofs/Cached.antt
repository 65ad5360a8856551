-- What is derived beside the holds agrees with them still after each change.
use Rattle.std.proofs.Common.{◌≡◌, ◌<◌, ℕ, ◌+◌, List, filter, Bool, true, false, cond, not, ◌&&◌, ◌||◌, Option, Some, None, refl, sym, ap, ◌∙◌, arith, IsTrue, ℤ}
use Rattle.std.specs.Option.{is_none, is_some, option_map}
use Rattle.std.specs.Ordering.{eq_by_cmp, is_eq, nat_cmp}
use Rattle.std.specs.Cmp.{Equal-is, nat_cmp_total, tied_itself}
use Rattle.std.specs.Cmp.Lexicographic.{nat_list_cmp_total}
use Rattle.std.specs.FinMap.{contains_key, empty, get, get-empty, entries, get-entries, get-insert, insert, same_map, len-empty, nat_cmp-IsAntisymmetric}
use Rattle.std.specs.FinSet as set
use Rattle.std.specs.Prelude.{nat_lt, slice_get}
use Rattle.std.specs.List.{list_any}
use Rattle.std.specs.List.Sorted.{IsStrictlySortedBy}
use Rattle.std.specs.FinSet.{FinSet, contains, contains-from_list, contains-insert, contains-remove, from_list}
use Rattle.office_records.specs.Lists.{amended, is_some_and}
use Rattle.office_records.specs.Tree.{code_cmp}
use Rattle.office_records.proofs.Inserting.{get-amended, same_code}
use Rattle.office_rules.specs.HoldEffects.{held_off, held_on, lifted_hold, with_target, without_target}
use Rattle.office_rules.specs.HoldForms.{FitsHoldLimits}
use Rattle.office_rules.specs.HoldLoading.{same_target}
use Rattle.office_holds.specs.HoldCounts.{CountsDown, CountsUp, AreCached, binds, binds_at, is_bound, cached_count, may_gain}
use Rattle.office_rules.specs.Holds.{HoldMap, HoldState, covers_in, has_target, held_in, hold_covers, is_in_force}
use Rattle.office_holds.specs.Numbers.{one_if}
use Rattle.office_rules.specs.HoldRows.{hold_from, put_hold}
use Rattle.office_holds.specs.declared.counts.HoldCounts.{HoldCounts}
use Rattle.office_records.specs.declared.hold_row.HoldRow.{HoldRow}
use Rattle.office_records.specs.declared.target.Target.{Target}
use Rattle.office_records.specs.declared.target.Target.TheVariants as target
use Rattle.office_rules.proofs.AmendedHolds.{OfEach-amended, OfEach-insert}
use Rattle.office_holds.proofs.BindingCounts.{any_agree, binding_count-amended, binding_count-insert, binding_count-le, held_by_counts}
use Rattle.office_holds.proofs.BareHolds.{bare_none}
use Rattle.office_holds.proofs.Entries.{entries_rise}
use Rattle.office_holds.proofs.FirstCovering.{first_among}
use Rattle.office_holds.proofs.CoveringRows.{codes_apart, has-with_target, tied_code, tied_number}

-- a hold in force has its code among these
abbrev IsAmong : FinSet code_cmp → List ℕ → HoldState → Type 0
IsAmong codes code hold = IsTrue (is_in_force hold) → IsTrue (contains codes code)

-- ---- the hold of a code

bound_by : (lifted : Option ℤ) (b : Bool) → is_some lifted ≡ false → b ≡ (is_none lifted && b)
bound_by None b e = refl
bound_by (Some day) b e = absurd cc

unbound_by : (lifted : Option ℤ) (b : Bool) → is_some lifted ≡ true → (is_none lifted && b) ≡ false
unbound_by None b e = absurd cc
unbound_by (Some day) b e = refl

module _ (holds : HoldMap) (k : List ℕ) where
  pub bound_there : (hold : HoldState) (t : Target) → get holds k ≡ Some hold → is_some hold.lifted ≡ false → has_target hold t ≡ binds_at holds k t
  bound_there hold t there force = bound_by hold.lifted (has_target hold t) force ∙ sym (ap (λ (o : Option HoldState). is_some_and o (binds t)) there)

  pub lifted_there : (hold : HoldState) (t : Target) → get holds k ≡ Some hold → is_some hold.lifted ≡ true → binds_at holds k t ≡ false
  lifted_there hold t there lifted = ap (λ (o : Option HoldState). is_some_and o (binds t)) there ∙ unbound_by hold.lifted (has_target hold t) lifted

  pub none_there : (t : Target) → get holds k ≡ None → binds_at holds k t ≡ false
  none_there t none = ap (λ (o : Option HoldState). is_some_and o (binds t)) none

-- ---- no holds

pub AreCached-empty : (counts : HoldCounts) (codes : FinSet code_cmp) → ((t : Target) → cached_count counts t ≡ 0) → AreCached empty counts codes
AreCached-empty counts codes zero = record {
  counted = λ t. let few = binding_count-le empty t in let none = len-empty code_cmp HoldState in omega (arith, few, none, zero t);
  in_force = λ q hold is. let none = get-empty {X = HoldState} code_cmp q in absurd cc;
}

-- ---- a hold that is lifted

module _ (holds : HoldMap) (k : List ℕ) (day : ℤ) where
  abbrev lift_hold : HoldState → HoldState
  lift_hold hold = record hold { lifted = Some day }

  lifted_counts : (t : Target) (o : Option HoldState) → is_some_and o (λ hold. binds t (lift_hold hold)) ≡ false
  lifted_counts t None = refl
  lifted_counts t (Some hold) = refl

  not_lifted : (o : Option HoldState) (hold : HoldState) → option_map lift_hold o ≡ Some hold → is_in_force hold ≡ false
  not_lifted None hold e = absurd cc
  not_lifted (Some x) hold e = let same : lift_hold x ≡ hold = cc in sym (ap is_in_force same)

  still_in : (codes : FinSet code_cmp) (q : List ℕ) (hold : HoldState) (b : Bool) → eq_by_cmp code_cmp q k ≡ b → (get holds q ≡ Some hold → IsAmong codes q hold)
      → cond b (option_map lift_hold (get holds k)) (get holds q) ≡ Some hold → IsTrue (is_in_force hold) → IsTrue (contains (set.remove codes k) q)
  still_in codes q hold true tie each is force = let none = not_lifted (get holds k) hold is in absurd cc
  still_in codes q hold false tie each is force = contains-remove nat_list_cmp_total codes k q ∙ (λ i. not (tie i) && each is force i)

  pub AreCached-lifted_hold : (counts after : HoldCounts) (codes : FinSet code_cmp) → AreCached holds counts codes → CountsDown counts after (binds_at holds k) → AreCached (lifted_hold holds day k) after (set.remove codes k)
  AreCached-lifted_hold counts after codes kept down = record {
    counted = λ t.
        let e = binding_count-amended holds k lift_hold t in
        let none = ap one_if (lifted_counts t (get holds k)) in
        omega (arith, e, none, down t, kept.counted t);
    in_force = λ q hold is. still_in codes q hold (eq_by_cmp code_cmp q k) refl (kept.in_force q hold) (sym (get-amended holds k lift_hold q) ∙ is);
  }

  itself : eq_by_cmp code_cmp k k ≡ true
  itself = ap is_eq (tied_itself nat_list_cmp_total k)

  -- it is lifted then
  pub lifted_then : (hold : HoldState) → get (lifted_hold holds day k) k ≡ Some hold → is_none hold.lifted ≡ false
  lifted_then hold is = not_lifted (get holds k) hold (sym (get-amended holds k lift_hold k ∙ ap (λ b. cond b (option_map lift_hold (get holds k)) (get holds k)) itself) ∙ is)

-- ---- other columns, by which a hold is lifted exactly where it was

module _ (holds : HoldMap) (k : List ℕ) (row : HoldRow) where
  abbrev set_columns : HoldState → HoldState
  set_columns hold = hold_from row (Some hold)

  same_counts : (t : Target) (o : Option HoldState) → ((hold : HoldState) → o ≡ Some hold → is_none hold.lifted ≡ is_none row.lifted) → is_some_and o (λ hold. binds t (set_columns hold)) ≡ is_some_and o (binds t)
  same_counts t None same = refl
  same_counts t (Some hold) same = ap (λ b. b && has_target (set_columns hold) t) (sym (same hold refl)) ∙ ap (λ b. is_in_force hold && b) (same_targets t hold) where
    same_targets : (t : Target) (hold : HoldState) → has_target (set_columns hold) t ≡ has_target hold t
    same_targets (target.Class code) hold = refl
    same_targets (target.Aggregation a) hold = refl
    same_targets (target.Record r) hold = refl

  pub AreCached-set_row : (counts : HoldCounts) (codes : FinSet code_cmp) → ((hold : HoldState) → get holds k ≡ Some hold → is_none hold.lifted ≡ is_none row.lifted) → AreCached holds counts codes → AreCached (amended holds k set_columns) counts codes
  AreCached-set_row counts codes same kept = record {
    counted = λ t.
        let e = binding_count-amended holds k set_columns t in
        let one = ap one_if (same_counts t (get holds k) same) in
        omega (arith, e, one, kept.counted t);
    in_force = OfEach-amended (IsAmong codes) holds k set_columns kept.in_force (λ hold is force. kept.in_force k hold is (same hold is ∙ force));
  }

  abbrev set_lifted_on : ℤ → HoldState → HoldState
  set_lifted_on day hold = record hold { lifted = Some day }

  replaced_by : (day : ℤ) (b : Bool) (here there : Option HoldState) → is_some here ≡ true
      → cond b (option_map set_columns (option_map (set_lifted_on day) here)) (cond b (option_map (set_lifted_on day) here) there) ≡ cond b (Some (hold_from row here)) there
  replaced_by day b None there is = absurd cc
  replaced_by day true (Some hold) there is = refl
  replaced_by day false (Some hold) there is = refl

  -- columns put in for a hold that was lifted first are the columns put in
  pub put_over_lifted : (day : ℤ) → contains_key holds k ≡ true → amended (lifted_hold holds day k) k set_columns ≡ put_hold holds k row
  put_over_lifted day there =
      let itself = ap is_eq (tied_itself nat_list_cmp_total k) in
      let here = get-amended holds k (set_lifted_on day) k ∙ ap (λ b. cond b (option_map (set_lifted_on day) (get holds k)) (get holds k)) itself in
      same_map nat_list_cmp_total codes_apart (amended (lifted_hold holds day k) k set_columns) (put_hold holds k row) (λ q.
      get-amended (lifted_hold holds day k) k set_columns q
      ∙ (λ i. cond (eq_by_cmp code_cmp q k) (option_map set_columns (here i)) (get-amended holds k (set_lifted_on day) q i))
      ∙ replaced_by day (eq_by_cmp code_cmp q k) (get holds k) (get holds q) there
      ∙ sym (get-insert nat_list_cmp_total holds k (hold_from row (get holds k)) q))

-- ---- a new hold

pub just_in : (codes : FinSet code_cmp) (k q : List ℕ) → k ≡ q → IsTrue (contains (set.insert codes k) q)
just_in codes k q same = contains-insert nat_list_cmp_total codes k q ∙ ap (λ b. b || contains codes q) (ap (λ c. eq_by_cmp code_cmp q c) same ∙ ap is_eq (tied_itself nat_list_cmp_total q))

pub more_in : (codes : FinSet code_cmp) (k q : List ℕ) → IsTrue (contains codes q) → IsTrue (contains (set.insert codes k) q)
more_in codes k q there = contains-insert nat_list_cmp_total codes k q ∙ or_true (eq_by_cmp code_cmp q k) (contains codes q) there where
  or_true : (a b : Bool) → b ≡ true → (a || b) ≡ true
  or_true true b e = refl
  or_true false b e = e

-- other counts that are the same do as well
pub AreCached-same : (holds : HoldMap) (counts after : HoldCounts) (codes : FinSet code_cmp) → ((t : Target) → cached_count after t ≡ cached_count counts t) → AreCached holds counts codes → AreCached holds after codes
AreCached-same holds counts after codes same kept = record { counted = λ t. same t ∙ kept.counted t; in_force = kept.in_force }

-- a count is far from the greatest number
pub count_fits : (holds : HoldMap) (counts : HoldCounts) (codes : FinSet code_cmp) (t : Target) → FitsHoldLimits holds → AreCached holds counts codes → cached_count counts t + 1 < 4_294_967_296
count_fits holds counts codes t fits kept = let few = binding_count-le holds t in omega (arith, few, kept.counted t, fits.holds_few)

-- a code more among those kept does no harm
pub AreCached-more : (holds : HoldMap) (counts : HoldCounts) (codes : FinSet code_cmp) (k : List ℕ) → AreCached holds counts codes → AreCached holds counts (set.insert codes k)
AreCached-more holds counts codes k kept = record { counted = kept.counted; in_force = λ q hold is force. more_in codes k q (kept.in_force q hold is force) }

none_left : (b : Bool) → one_if (b && false) ≡ 0
none_left true = refl
none_left false = refl

pub AreCached-added : (holds : HoldMap) (k : List ℕ) (row : HoldRow) (counts : HoldCounts) (codes : FinSet code_cmp) → get holds k ≡ None → IsTrue (contains codes k) → AreCached holds counts codes → AreCached (insert holds k (hold_from row None)) counts codes
AreCached-added holds k row counts codes free there kept = record {
  counted = λ t.
      let e = binding_count-insert holds k (hold_from row None) t in
      let none = ap (λ (o : Option HoldState). one_if (is_some_and o (binds t))) free in
      let no_target = ap (λ b. one_if (is_none row.lifted && b)) (bare_none row t) ∙ none_left (is_none row.lifted) in
      omega (arith, e, none, no_target, kept.counted t);
  in_force = OfEach-insert (IsAmong codes) holds k (hold_from row None) kept.in_force (λ _. there);
}

-- ---- a target put on

same_number : (q n : ℕ) → eq_by_cmp nat_cmp q n ≡ true → q ≡ n
same_number q n tie = nat_cmp-IsAntisymmetric q n ((Equal-is (nat_cmp q n)).0 tie)

same_is_equal : (n t : Target) → same_target n t ≡ true → n ≡ t
same_is_equal (target.Class code) (target.Class q) same = ap target.Class (sym (same_code q code (tied_code q code ∙ same)))
same_is_equal (target.Aggregation a) (target.Aggregation q) same = ap target.Aggregation (sym (same_number q a (tied_number q a ∙ same)))
same_is_equal (target.Record r) (target.Record q) same = ap target.Record (sym (same_number q r (tied_number q r ∙ same)))
same_is_equal (target.Class code) (target.Aggregation q) same = absurd cc
same_is_equal (target.Class code) (target.Record q) same = absurd cc
same_is_equal (target.Aggregation a) (target.Class q) same = absurd cc
same_is_equal (target.Aggregation a) (target.Record q) same = absurd cc
same_is_equal (target.Record r) (target.Class q) same = absurd cc
same_is_equal (target.Record r) (target.Aggregation q) same = absurd cc

in_force-with_target : (n : Target) (hold : HoldState) → is_in_force (with_target n hold) ≡ is_in_force hold
in_force-with_target (target.Class code) hold = refl
in_force-with_target (target.Aggregation a) hold = refl
in_force-with_target (target.Record r) hold = refl

-- of a hold in force or not, a target that is the new one or not, and is there or not
gained : (force same has had_new : Bool) → (same ≡ true → has ≡ had_new) → one_if (force && (same || has)) ≡ one_if (force && has) + one_if ((force && not had_new) && same)
gained false same has had_new e = refl
gained true false has true e = omega arith
gained true false has false e = omega arith
gained true true has true e = let h = ap one_if (e refl) in omega (arith, h)
gained true true has false e = let h = ap one_if (e refl) in omega (arith, h)

gained_at : (n t : Target) (o : Option HoldState)
    → one_if (is_some_and o (λ hold. binds t (with_target n hold))) ≡ one_if (is_some_and o (binds t)) + one_if (is_some_and o (λ hold. is_in_force hold && not (has_target hold n)) && same_target n t)
gained_at n t None = refl
gained_at n t (Some hold) =
    (λ i. one_if (in_force-with_target n hold i && has-with_target n t hold i))
    ∙ gained (is_in_force hold) (same_target n t) (has_target hold t) (has_target hold n) (λ same. ap (has_target hold) (sym (same_is_equal n t same)))

module _ (holds : HoldMap) (k : List ℕ) (n : Target) (counts : HoldCounts) (codes : FinSet code_cmp) (kept : AreCached holds counts codes) where
  still_with : (q : List ℕ) (hold : HoldState) → get (held_on holds k n) q ≡ Some hold → IsAmong codes q hold
  still_with = OfEach-amended (IsAmong codes) holds k (with_target n) kept.in_force (λ hold is force. kept.in_force k hold is (sym (in_force-with_target n hold) ∙ force))

  -- it is counted where the hold is in force and did not have it
  pub AreCached-gained : (after : HoldCounts) → may_gain holds k n ≡ true → CountsUp counts after (same_target n) → AreCached (held_on holds k n) after codes
  AreCached-gained after gains up = record {
    counted = λ t.
        let e = binding_count-amended holds k (with_target n) t in
        let one = gained_at n t (get holds k) in
        let so = ap (λ b. one_if (b && same_target n t)) gains in
        omega (arith, e, one, so, up t, kept.counted t);
    in_force = still_with;
  }

  -- and else nothing is counted
  pub AreCached-held_on : may_gain holds k n ≡ false → AreCached (held_on holds k n) counts codes
  AreCached-held_on none = record {
    counted = λ t.
        let e = binding_count-amended holds k (with_target n) t in
        let one = gained_at n t (get holds k) in
        let so = ap (λ b. one_if (b && same_target n t)) none in
        omega (arith, e, one, so, kept.counted t);
    in_force = still_with;
  }

-- ---- a target taken off

-- a target taken off a hold is on it no more, and the others are
has-without_target : (gone t : Target) (hold : HoldState) → has_target (without_target gone hold) t ≡ (not (same_target gone t) && has_target hold t)
has-without_target (target.Class code) (target.Class q) hold = contains-remove nat_list_cmp_total hold.classes code q ∙ ap (λ b. not b && contains hold.classes q) (tied_code q code)
has-without_target (target.Aggregation a) (target.Aggregation q) hold = contains-remove nat_cmp_total hold.aggregations a q ∙ ap (λ b. not b && contains hold.aggregations q) (tied_number q a)
has-without_target (target.Record r) (target.Record q) hold = contains-remove nat_cmp_total hold.records r q ∙ ap (λ b. not b && contains hold.records q) (tied_number q r)
has-without_target (target.Class code) (target.Aggregation q) hold = refl
has-without_target (target.Class code) (target.Record q) hold = refl
has-without_target (target.Aggregation a) (target.Class q) hold = refl
has-without_target (target.Aggregation a) (target.Record q) hold = refl
has-without_target (target.Record r) (target.Class q) hold = refl
has-without_target (target.Record r) (target.Aggregation q) hold = refl

in_force-without_target : (n : Target) (hold : HoldState) → is_in_force (without_target n hold) ≡ is_in_force hold
in_force-without_target (target.Class code) hold = refl
in_force-without_target (target.Aggregation a) hold = refl
in_force-without_target (target.Record r) hold = refl

lost : (force same has had_gone : Bool) → (same ≡ true → has ≡ had_gone) → one_if (force && has) ≡ one_if (force && (not same && has)) + one_if ((force && had_gone) && same)
lost false same has had_gone e = refl
lost true false has true e = omega arith
lost true false has false e = omega arith
lost true true has true e = let h = ap one_if (e refl) in omega (arith, h)
lost true true has false e = let h = ap one_if (e refl) in omega (arith, h)

lost_at : (n t : Target) (o : Option HoldState)
    → one_if (is_some_and o (binds t)) ≡ one_if (is_some_and o (λ hold. binds t (without_target n hold))) + one_if (is_some_and o (binds n) && same_target n t)
lost_at n t None = refl
lost_at n t (Some hold) =
    lost (is_in_force hold) (same_target n t) (has_target hold t) (has_target hold n) (λ same. ap (has_target hold) (sym (same_is_equal n t same)))
    ∙ sym (λ i. one_if (in_force-without_target n hold i && has-without_target n t hold i) + one_if ((is_in_force hold && has_target hold n) && same_target n t))

module _ (holds : HoldMap) (k : List ℕ) (n : Target) (counts : HoldCounts) (codes : FinSet code_cmp) (kept : AreCached holds counts codes) where
  still_without : (q : List ℕ) (hold : HoldState) → get (held_off holds k n) q ≡ Some hold → IsAmong codes q hold
  still_without = OfEach-amended (IsAmong codes) holds k (without_target n) kept.in_force (λ hold is force. kept.in_force k hold is (sym (in_force-without_target n hold) ∙ force))

  -- it is counted off where the hold is in force and had it
  pub AreCached-lost : (after : HoldCounts) → binds_at holds k n ≡ true → CountsDown counts after (same_target n) → AreCached (held_off holds k n) after codes
  AreCached-lost after bound down = record {
    counted = λ t.
        let e = binding_count-amended holds k (without_target n) t in
        let one = lost_at n t (get holds k) in
        let so = ap (λ b. one_if (b && same_target n t)) bound in
        omega (arith, e, one, so, down t, kept.counted t);
    in_force = still_without;
  }

  -- and else nothing is counted
  pub AreCached-held_off : binds_at holds k n ≡ false → AreCached (held_off holds k n) counts codes
  AreCached-held_off none = record {
    counted = λ t.
        let e = binding_count-amended holds k (without_target n) t in
        let one = lost_at n t (get holds k) in
        let so = ap (λ b. one_if (b && same_target n t)) none in
        omega (arith, e, one, so, kept.counted t);
    in_force = still_without;
  }

-- ---- what is reported of a record

-- what the cached counts report of a record is whether it is held
pub held_by_cached : (holds : HoldMap) (counts : HoldCounts) (codes : FinSet code_cmp) (r : ℕ) (above : List ℕ) (class : List ℕ) → AreCached holds counts codes
    → (is_bound counts (target.Record r) || list_any (λ a. is_bound counts (target.Aggregation a)) above || is_bound counts (target.Class class)) ≡ held_in holds r above (Some class)
held_by_cached holds counts codes r above class kept =
    (λ i. nat_lt 0 (kept.counted (target.Record r) i) || any_agree _ _ (λ a. ap (nat_lt 0) (kept.counted (target.Aggregation a))) above i || nat_lt 0 (kept.counted (target.Class class) i))
    ∙ sym (held_by_counts holds r above class)

first_part : (a b : Bool) → (a && b) ≡ true → a ≡ true
first_part true b e = refl
first_part false b e = e

-- and the first of the cached codes whose hold covers it is the least of those that do
pub least_by_cached : (holds : HoldMap) (counts : HoldCounts) (ks : List (List ℕ)) (r : ℕ) (above : List ℕ) (class : Option (List ℕ)) → AreCached holds counts (from_list {R = code_cmp} ks) → IsStrictlySortedBy code_cmp ks
    → slice_get (filter (λ code. is_some_and (get holds code) (λ hold. hold_covers hold r above class)) ks) 0 ≡ slice_get (covers_in holds r above class) 0
unfolding covers_in
least_by_cached holds counts ks r above class kept sorted =
    let test : HoldState → Bool = λ hold. hold_covers hold r above class in
    (λ i. slice_get (filter (λ code. is_some_and (get-entries holds code i) test) ks) 0)
    ∙ first_among test (entries holds) ks (entries_rise holds) sorted
    (λ q (hold, found, covers). sym (contains-from_list nat_list_cmp_total ks q) ∙ kept.in_force q hold (get-entries holds q ∙ found) (first_part (is_in_force hold) _ covers))
