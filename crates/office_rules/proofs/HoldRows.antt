-- The rows of holds and of their targets after a write.
use Rattle.std.proofs.Common.{◌≡◌, ℕ, ◌==◌, Bool, true, false, cond, ◌&&◌, ◌||◌, List, Option, Some, None, refl, sym, ap, ◌∙◌}
use Rattle.std.specs.Prelude.{not, IsSome}
use Rattle.std.specs.Option.{option_map}
use Rattle.std.specs.Ordering.{nat_cmp, eq_by_cmp}
use Rattle.std.specs.Str.{bytes_eq}
use Rattle.std.specs.Cmp.{eq_by_cmp_equiv, nat_cmp_total, unsigned_tied}
use Rattle.std.specs.Cmp.Lexicographic.{nat_list_cmp_total}
use Rattle.std.specs.FinMap.{get, get-insert, insert, slice_cmp-IsAntisymmetric, nat_cmp-IsAntisymmetric, IsAntisymmetric}
use Rattle.std.specs.FinSet.{contains, contains-empty, contains-insert, contains-remove}
use Rattle.std.proofs.lemmas.Map.Text.{is_eq-slice_cmp}
use Rattle.office_records.specs.Lists.{amended, is_some_and}
use Rattle.office_records.specs.Tree.{code_cmp}
use Rattle.office_records.proofs.Inserting.{get-amended, same_code}
use Rattle.office_rules.specs.HoldEffects.{with_target, without_target}
use Rattle.office_rules.specs.HoldLoading.{is_pair, same_target}
use Rattle.office_rules.specs.Holds.{HoldMap, HoldState, has_target}
use Rattle.office_rules.specs.HoldRows.{hold_from, hold_row}
use Rattle.office_records.specs.declared.hold_row.HoldRow.{HoldRow}
use Rattle.office_records.specs.declared.target.Target.{Target}
use Rattle.office_records.specs.declared.target.Target.TheVariants as target
use Rattle.office_rules.specs.Rows.{targets_of}

pub codes_apart : IsAntisymmetric code_cmp
codes_apart = slice_cmp-IsAntisymmetric nat_cmp-IsAntisymmetric

-- the test of codes by their order is that by their bytes
tied_code : (q k : List ℕ) → eq_by_cmp code_cmp q k ≡ bytes_eq k q
tied_code q k = (eq_by_cmp_equiv nat_list_cmp_total).symm q k ∙ is_eq-slice_cmp k q

tied_number : (q k : ℕ) → eq_by_cmp nat_cmp q k ≡ (k == q)
tied_number q k = (eq_by_cmp_equiv nat_cmp_total).symm q k ∙ unsigned_tied k q

-- ---- one hold

-- a target put on a hold is on it, with those that were
has-with_target : (new t : Target) (hold : HoldState) → has_target (with_target new hold) t ≡ (same_target new t || has_target hold t)
has-with_target (target.Class code) (target.Class q) hold = contains-insert nat_list_cmp_total hold.classes code q ∙ ap (λ b. b || contains hold.classes q) (tied_code q code)
has-with_target (target.Aggregation a) (target.Aggregation q) hold = contains-insert nat_cmp_total hold.aggregations a q ∙ ap (λ b. b || contains hold.aggregations q) (tied_number q a)
has-with_target (target.Record r) (target.Record q) hold = contains-insert nat_cmp_total hold.records r q ∙ ap (λ b. b || contains hold.records q) (tied_number q r)
has-with_target (target.Class code) (target.Aggregation q) hold = refl
has-with_target (target.Class code) (target.Record q) hold = refl
has-with_target (target.Aggregation a) (target.Class q) hold = refl
has-with_target (target.Aggregation a) (target.Record q) hold = refl
has-with_target (target.Record r) (target.Class q) hold = refl
has-with_target (target.Record r) (target.Aggregation q) hold = refl

-- a target taken off a hold is not on it
has-without_target : (gone t : Target) (hold : HoldState) → has_target (without_target gone hold) t ≡ (not (same_target gone t) && has_target hold t)
has-without_target (target.Class code) (target.Class q) hold = contains-remove nat_list_cmp_total hold.classes code q ∙ ap (λ b. not b && contains hold.classes q) (tied_code q code)
has-without_target (target.Aggregation a) (target.Aggregation q) hold = contains-remove nat_cmp_total hold.aggregations a q ∙ ap (λ b. not b && contains hold.aggregations q) (tied_number q a)
has-without_target (target.Record r) (target.Record q) hold = contains-remove nat_cmp_total hold.records r q ∙ ap (λ b. not b && contains hold.records q) (tied_number q r)
has-without_target (target.Class code) (target.Aggregation q) hold = refl
has-without_target (target.Class code) (target.Record q) hold = refl
has-without_target (target.Aggregation a) (target.Class q) hold = refl
has-without_target (target.Aggregation a) (target.Record q) hold = refl
has-without_target (target.Record r) (target.Class q) hold = refl
has-without_target (target.Record r) (target.Aggregation q) hold = refl

pub with_target-row : (new : Target) (hold : HoldState) → hold_row (with_target new hold) ≡ hold_row hold
with_target-row (target.Class code) hold = refl
with_target-row (target.Aggregation a) hold = refl
with_target-row (target.Record r) hold = refl

pub without_target-row : (gone : Target) (hold : HoldState) → hold_row (without_target gone hold) ≡ hold_row hold
without_target-row (target.Class code) hold = refl
without_target-row (target.Aggregation a) hold = refl
without_target-row (target.Record r) hold = refl

pub hold_from-row : (row : HoldRow) (o : Option HoldState) → hold_row (hold_from row o) ≡ row
hold_from-row row None = refl
hold_from-row row (Some hold) = refl

-- a hold's columns that are put in leave its targets, of which a new one has none
has-hold_from : (row : HoldRow) (o : Option HoldState) (t : Target) → has_target (hold_from row o) t ≡ is_some_and o (λ hold. has_target hold t)
has-hold_from row None (target.Class q) = contains-empty code_cmp q
has-hold_from row None (target.Aggregation q) = contains-empty nat_cmp q
has-hold_from row None (target.Record q) = contains-empty nat_cmp q
has-hold_from row (Some hold) (target.Class q) = refl
has-hold_from row (Some hold) (target.Aggregation q) = refl
has-hold_from row (Some hold) (target.Record q) = refl

-- ---- the targets of all holds

has_by : (row : HoldRow) (b : Bool) (here there : Option HoldState) (t : Target) → (b ≡ true → there ≡ here) → is_some_and (cond b (Some (hold_from row here)) there) (λ hold. has_target hold t) ≡ is_some_and there (λ hold. has_target hold t)
has_by row true here there t same = has-hold_from row here t ∙ ap (λ (o : Option HoldState). is_some_and o (λ hold. has_target hold t)) (sym (same refl))
has_by row false here there t same = refl

pub targets_of-hold : (holds : HoldMap) (code : List ℕ) (row : HoldRow) → targets_of (insert holds code (hold_from row (get holds code))) ≡ targets_of holds
targets_of-hold holds code row = λ i q t. (
    ap (λ (o : Option HoldState). is_some_and o (λ hold. has_target hold t)) (get-insert nat_list_cmp_total holds code (hold_from row (get holds code)) q)
    ∙ has_by row (eq_by_cmp code_cmp q code) (get holds code) (get holds q) t (λ tie. ap (get holds) (same_code q code tie))) i

put_by : (new t : Target) (b same_byte : Bool) (here there : Option HoldState) → IsSome here → b ≡ same_byte → (b ≡ true → there ≡ here)
    → is_some_and (cond b (option_map (with_target new) here) there) (λ hold. has_target hold t) ≡ ((same_byte && same_target new t) || is_some_and there (λ hold. has_target hold t))
put_by new t true true None there is e same = absurd cc
put_by new t true true (Some hold) there is e same = has-with_target new t hold ∙ ap (λ (o : Option HoldState). same_target new t || is_some_and o (λ it. has_target it t)) (sym (same refl))
put_by new t true false here there is e same = absurd cc
put_by new t false true here there is e same = absurd cc
put_by new t false false here there is e same = refl

pub targets_of-put : (holds : HoldMap) (code : List ℕ) (new : Target) → IsSome (get holds code) → targets_of (amended holds code (with_target new)) ≡ (λ q t. is_pair code new q t || targets_of holds q t)
targets_of-put holds code new is = λ i q t. (
    ap (λ (o : Option HoldState). is_some_and o (λ hold. has_target hold t)) (get-amended holds code (with_target new) q)
    ∙ put_by new t (eq_by_cmp code_cmp q code) (bytes_eq code q) (get holds code) (get holds q) is (tied_code q code) (λ tie. ap (get holds) (same_code q code tie))) i

false_and : (b : Bool) → false ≡ (b && false)
false_and true = refl
false_and false = refl

gone_by : (gone t : Target) (b same_byte : Bool) (here there : Option HoldState) → b ≡ same_byte → (b ≡ true → there ≡ here)
    → is_some_and (cond b (option_map (without_target gone) here) there) (λ hold. has_target hold t) ≡ (not (same_byte && same_target gone t) && is_some_and there (λ hold. has_target hold t))
gone_by gone t true true None there e same = false_and (not (same_target gone t)) ∙ ap (λ (o : Option HoldState). not (same_target gone t) && is_some_and o (λ it. has_target it t)) (sym (same refl))
gone_by gone t true true (Some hold) there e same = has-without_target gone t hold ∙ ap (λ (o : Option HoldState). not (same_target gone t) && is_some_and o (λ it. has_target it t)) (sym (same refl))
gone_by gone t true false here there e same = absurd cc
gone_by gone t false true here there e same = absurd cc
gone_by gone t false false here there e same = refl

pub targets_of-gone : (holds : HoldMap) (code : List ℕ) (gone : Target) → targets_of (amended holds code (without_target gone)) ≡ (λ q t. not (is_pair code gone q t) && targets_of holds q t)
targets_of-gone holds code gone = λ i q t. (
    ap (λ (o : Option HoldState). is_some_and o (λ hold. has_target hold t)) (get-amended holds code (without_target gone) q)
    ∙ gone_by gone t (eq_by_cmp code_cmp q code) (bytes_eq code q) (get holds code) (get holds q) (tied_code q code) (λ tie. ap (get holds) (same_code q code tie))) i
