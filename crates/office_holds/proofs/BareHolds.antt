-- Holds without targets, and the rows of holds.
use Rattle.std.proofs.Common.{◌≡◌, ◌≤◌, ℕ, suc, List, [], ◌∷◌, length, map, false, None, refl, sym, ap, subst, ◌∙◌, arith}
use Rattle.std.specs.Ordering.{nat_cmp}
use Rattle.std.specs.List.Sorted.{IsStrictlySortedBy}
use Rattle.std.specs.Map.{keys_of}
use Rattle.std.specs.FinMap.{entries}
use Rattle.std.specs.FinSet as set
use Rattle.office_base.proofs.Maps.{keys_ascend}
use Rattle.office_records.specs.Tree.{code_cmp}
use Rattle.office_rules.specs.HoldConditions.{target_count}
use Rattle.office_rules.specs.HoldLoading.{hold_rows}
use Rattle.office_rules.specs.Holds.{HoldMap, HoldState, has_target}
use Rattle.office_rules.specs.HoldRows.{hold_from, hold_row}
use Rattle.office_records.specs.declared.hold_row.HoldRow.{HoldRow}
use Rattle.office_records.specs.declared.target.Target.{Target}
use Rattle.office_records.specs.declared.target.Target.TheVariants as target

pub bare_none : (row : HoldRow) (t : Target) → has_target (hold_from row None) t ≡ false
bare_none row (target.Class q) = set.contains-empty code_cmp q
bare_none row (target.Aggregation q) = set.contains-empty nat_cmp q
bare_none row (target.Record q) = set.contains-empty nat_cmp q

pub bare_count : (row : HoldRow) → target_count (hold_from row None) ≤ 1_000
bare_count row = let none = set.len-empty code_cmp in let no_number = set.len-empty nat_cmp in omega (arith, none, no_number)

-- there is a row for each hold
pub rows_length : (fs : List (List ℕ × HoldState)) → length {A = List ℕ × HoldRow} (map (λ (e : List ℕ × HoldState). (e.0, hold_row e.1)) fs) ≡ length fs
rows_length [] = refl
rows_length (f ∷ fs) = ap suc (rows_length fs)

-- under its code
pub row_keys : (fs : List (List ℕ × HoldState)) → keys_of (map (λ (e : List ℕ × HoldState). (e.0, hold_row e.1)) fs) ≡ keys_of fs
row_keys [] = refl
row_keys (f ∷ fs) = ap (λ rest. f.0 ∷ rest) (row_keys fs)

-- the rows of holds are in the order of their codes
pub rows_ascend : (rows : List (List ℕ × HoldRow)) (holds : HoldMap) → hold_rows holds ≡ rows → IsStrictlySortedBy code_cmp (keys_of rows)
rows_ascend rows holds e = subst (λ ks. IsStrictlySortedBy code_cmp ks) (sym (row_keys (entries holds)) ∙ ap keys_of e) (keys_ascend code_cmp holds)
