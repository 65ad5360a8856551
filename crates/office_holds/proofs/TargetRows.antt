-- Rows of targets, one after another.
use Rattle.std.proofs.Common.{◌≡◌, ◌≤◌, ℕ, List, [], ◌∷◌, ◌++◌, Bool, true, false, not, ◌&&◌, ◌||◌, Option, Some, None, refl, sym, ap, ◌∙◌, arith, true≢false}
use Rattle.std.specs.Prelude.{nat_le}
use Rattle.std.specs.Option.{option_map}
use Rattle.std.specs.List.{list_any}
use Rattle.std.specs.FinMap.{get}
use Rattle.std.specs.FinMap.Entries.{find}
use Rattle.std.proofs.lemmas.Bool.Decides.{nat_tests}
use Rattle.std.proofs.lemmas.List.Folds.{list_any-append}
use Rattle.office_records.specs.Lists.{is_some_and}
use Rattle.office_records.specs.Tree.{code_cmp}
use Rattle.office_records.proofs.Accepting.{neither, not_false}
use Rattle.office_rules.specs.HoldConditions.{target_count}
use Rattle.office_rules.specs.HoldEffects.{held_on, with_target}
use Rattle.office_rules.specs.HoldForms.{FitsHoldLimits}
use Rattle.office_rules.specs.HoldLoading.{AreRowsOf, is_pair, same_target, takes_target}
use Rattle.office_rules.specs.Holds.{HoldMap, HoldState, has_target}
use Rattle.office_rules.specs.HoldRows.{hold_row}
use Rattle.office_records.specs.declared.hold_row.HoldRow.{HoldRow}
use Rattle.office_records.specs.declared.target.Target.{Target}
use Rattle.office_holds.proofs.CoveringRows.{code_itself, find-hold_rows, has-with_target, pair_itself, rows-held_on, target-held_on}
use Rattle.office_holds.proofs.TargetCounts.{count_new, count_within, taken_there}

last_first : (a b : Bool) → (a || (b || false)) ≡ (b || a)
last_first true true = refl
last_first true false = refl
last_first false true = refl
last_first false false = refl

-- one more target, which its hold takes
pub rows-taken : (rows : List (List ℕ × HoldRow)) (done : List (List ℕ × Target)) (code : List ℕ) (new : Target) (holds : HoldMap) → AreRowsOf rows done holds → takes_target holds code new ≡ true
    → AreRowsOf rows (done ++ (code, new) ∷ []) (held_on holds code new)
rows-taken rows done code new holds are takes = record {
  columns = rows-held_on holds code new ∙ are.columns;
  targets_exist = λ q t.
      list_any-append (λ e. is_pair e.0 e.1 q t) done ((code, new) ∷ [])
      ∙ last_first (list_any (λ e. is_pair e.0 e.1 q t) done) (is_pair code new q t)
      ∙ ap (λ b. is_pair code new q t || b) (are.targets_exist q t)
      ∙ sym (target-held_on holds code new q t (taken_there holds code new takes));
}

-- ---- rows that are those of no holds

or_middle : (a b c : Bool) → b ≡ true → (a || (b || c)) ≡ true
or_middle true b c e = refl
or_middle false true c e = refl
or_middle false false c e = absurd cc

has_either : (a b c : Bool) → (b || a) ≡ true → (a || (b || c)) ≡ true
has_either true b c e = refl
has_either false true c e = refl
has_either false false c e = absurd cc

missing : (a b : Option HoldState) (test : HoldState → Bool) → option_map hold_row a ≡ option_map hold_row b → a ≡ None → is_some_and b test ≡ true → ⊥
missing a None test e none is = true≢false (sym is)
missing None (Some hold) test e none is = absurd cc
missing (Some other) (Some hold) test e none is = absurd cc

there : (a b : Option HoldState) (it : HoldState) → option_map hold_row a ≡ option_map hold_row b → a ≡ Some it → (other : HoldState) × (b ≡ Some other)
there a (Some hold) it e is = (hold, refl)
there None None it e is = absurd cc
there (Some hold) None it e is = absurd cc

module _ (rows : List (List ℕ × HoldRow)) (done rest : List (List ℕ × Target)) (code : List ℕ) (new : Target) (holds represent : HoldMap)
    (are : AreRowsOf rows done holds) (fits : FitsHoldLimits represent) (all : AreRowsOf rows (done ++ (code, new) ∷ rest) represent) where
  same_columns : option_map hold_row (get holds code) ≡ option_map hold_row (get represent code)
  same_columns = sym (find-hold_rows holds code) ∙ ap (find code_cmp code) (are.columns ∙ sym all.columns) ∙ find-hold_rows represent code

  -- which targets a hold has among the rows
  among : (t : Target) → is_some_and (get represent code) (λ hold. has_target hold t) ≡ (list_any (λ e. is_pair e.0 e.1 code t) done || (is_pair code new code t || list_any (λ e. is_pair e.0 e.1 code t) rest))
  among t = sym (all.targets_exist code t) ∙ list_any-append (λ e. is_pair e.0 e.1 code t) done ((code, new) ∷ rest)

  has_new : is_some_and (get represent code) (λ hold. has_target hold new) ≡ true
  has_new = among new ∙ or_middle (list_any (λ e. is_pair e.0 e.1 code new) done) (is_pair code new code new) (list_any (λ e. is_pair e.0 e.1 code new) rest) (pair_itself code new)

  has_all : (it other : HoldState) → get holds code ≡ Some it → get represent code ≡ Some other → (t : Target) → has_target (with_target new it) t ≡ true → has_target other t ≡ true
  has_all it other is e t has =
      let before : list_any (λ e. is_pair e.0 e.1 code t) done ≡ has_target it t = are.targets_exist code t ∙ ap (λ (o : Option HoldState). is_some_and o (λ hold. has_target hold t)) is in
      let here : is_pair code new code t ≡ same_target new t = ap (λ b. b && same_target new t) (code_itself code) in
      sym (ap (λ (o : Option HoldState). is_some_and o (λ hold. has_target hold t)) e)
      ∙ among t
      ∙ (λ i. before i || (here i || list_any (λ e. is_pair e.0 e.1 code t) rest))
      ∙ has_either (has_target it t) (same_target new t) (list_any (λ e. is_pair e.0 e.1 code t) rest) (sym (has-with_target new t it) ∙ has)

  too_many : (it other : HoldState) → get holds code ≡ Some it → get represent code ≡ Some other → (has_target it new || not (nat_le 1_000 (target_count it))) ≡ false → ⊥
  too_many it other is e refused =
      let parts = neither (has_target it new) (not (nat_le 1_000 (target_count it))) refused in
      let full : 1_000 ≤ target_count it = at_least (target_count it) (not_false (nat_le 1_000 (target_count it)) parts.1) in
      let one_more = count_new new it parts.0 in
      let within = count_within (with_target new it) other (has_all it other is e) in
      let few = fits.targets_few code other e in
      absurd (omega (arith, full, one_more, within, few))
    where
      at_least : (n : ℕ) → nat_le 1_000 n ≡ true → 1_000 ≤ n
      at_least n h = grind (arith, nat_tests)

  -- a row that its hold does not take goes on no rows of holds within their limits
  pub not_taken : takes_target holds code new ≡ false → ⊥
  not_taken refused = by_hold (get holds code) refl where
    by_hold : (o : Option HoldState) → get holds code ≡ o → ⊥
    by_hold None is = missing (get holds code) (get represent code) (λ hold. has_target hold new) same_columns is has_new
    by_hold (Some it) is =
        let other = there (get holds code) (get represent code) it same_columns is in
        too_many it other.0 is other.1 (sym (ap (λ (o : Option HoldState). is_some_and o (λ hold. has_target hold new || not (nat_le 1_000 (target_count hold)))) is) ∙ refused)
