-- The rows of holds and of their targets after a target is put on a hold.
use Rattle.std.proofs.Common.{◌≡◌, ℕ, ◌==◌, Bool, true, false, cond, ◌&&◌, ◌||◌, List, [], ◌∷◌, map, Option, Some, None, refl, sym, ap, ◌∙◌}
use Rattle.std.specs.Prelude.{IsSome}
use Rattle.std.specs.declared.cmp.Ordering.TheVariants.{Less, Equal, Greater}
use Rattle.std.specs.Option.{option_map}
use Rattle.std.specs.Ordering.{nat_cmp, eq_by_cmp, is_eq}
use Rattle.std.specs.Str.{bytes_eq}
use Rattle.std.specs.Cmp.{eq_by_cmp_equiv, nat_cmp_total, tied_itself, unsigned_tied}
use Rattle.std.specs.Cmp.Lexicographic.{nat_list_cmp_total}
use Rattle.std.specs.FinMap.{entries, entries-insert, get, get-entries, get-insert, insert, same_map, slice_cmp-IsAntisymmetric, nat_cmp-IsAntisymmetric, IsAntisymmetric}
use Rattle.std.specs.FinMap.Entries.{by_order, find, put}
use Rattle.std.specs.FinSet.{contains, contains-insert}
use Rattle.std.proofs.lemmas.Map.Text.{is_eq-slice_cmp}
use Rattle.office_records.specs.Lists.{amended_by, is_some_and}
use Rattle.office_records.specs.Tree.{code_cmp}
use Rattle.office_records.proofs.Inserting.{get-amended, same_code}
use Rattle.office_rules.specs.HoldEffects.{held_on, with_target}
use Rattle.office_rules.specs.HoldLoading.{hold_rows, is_pair, same_target}
use Rattle.office_rules.specs.Holds.{HoldMap, HoldState, has_target}
use Rattle.office_rules.specs.HoldRows.{hold_row}
use Rattle.office_records.specs.declared.target.Target.{Target}
use Rattle.office_records.specs.declared.target.Target.TheVariants as target

pub codes_apart : IsAntisymmetric code_cmp
codes_apart = slice_cmp-IsAntisymmetric nat_cmp-IsAntisymmetric

-- the test of codes by their order is that by their bytes
pub tied_code : (q k : List ℕ) → eq_by_cmp code_cmp q k ≡ bytes_eq k q
tied_code q k = (eq_by_cmp_equiv nat_list_cmp_total).symm q k ∙ is_eq-slice_cmp k q

pub tied_number : (q k : ℕ) → eq_by_cmp nat_cmp q k ≡ (k == q)
tied_number q k = (eq_by_cmp_equiv nat_cmp_total).symm q k ∙ unsigned_tied k q

pub code_itself : (code : List ℕ) → bytes_eq code code ≡ true
code_itself code = sym (tied_code code code) ∙ ap is_eq (tied_itself nat_list_cmp_total code)

number_itself : (n : ℕ) → (n == n) ≡ true
number_itself n = sym (tied_number n n) ∙ ap is_eq (tied_itself nat_cmp_total n)

target_itself : (t : Target) → same_target t t ≡ true
target_itself (target.Class code) = code_itself code
target_itself (target.Aggregation a) = number_itself a
target_itself (target.Record r) = number_itself r

pub pair_itself : (code : List ℕ) (t : Target) → is_pair code t code t ≡ true
pair_itself code t = λ i. code_itself code i && target_itself t i

-- ---- one hold

-- a target put on a hold is on it, with those that were
pub has-with_target : (new t : Target) (hold : HoldState) → has_target (with_target new hold) t ≡ (same_target new t || has_target hold t)
has-with_target (target.Class code) (target.Class q) hold = contains-insert nat_list_cmp_total hold.classes code q ∙ ap (λ b. b || contains hold.classes q) (tied_code q code)
has-with_target (target.Aggregation a) (target.Aggregation q) hold = contains-insert nat_cmp_total hold.aggregations a q ∙ ap (λ b. b || contains hold.aggregations q) (tied_number q a)
has-with_target (target.Record r) (target.Record q) hold = contains-insert nat_cmp_total hold.records r q ∙ ap (λ b. b || contains hold.records q) (tied_number q r)
has-with_target (target.Class code) (target.Aggregation q) hold = refl
has-with_target (target.Class code) (target.Record q) hold = refl
has-with_target (target.Aggregation a) (target.Class q) hold = refl
has-with_target (target.Aggregation a) (target.Record q) hold = refl
has-with_target (target.Record r) (target.Class q) hold = refl
has-with_target (target.Record r) (target.Aggregation q) hold = refl

row-with_target : (new : Target) (hold : HoldState) → hold_row (with_target new hold) ≡ hold_row hold
row-with_target (target.Class code) hold = refl
row-with_target (target.Aggregation a) hold = refl
row-with_target (target.Record r) hold = refl

-- ---- the targets of all holds

put_by : (new t : Target) (b same_byte : Bool) (here there : Option HoldState) → IsSome here → b ≡ same_byte → (b ≡ true → there ≡ here)
    → is_some_and (cond b (option_map (with_target new) here) there) (λ hold. has_target hold t) ≡ ((same_byte && same_target new t) || is_some_and there (λ hold. has_target hold t))
put_by new t true true None there is e same = absurd cc
put_by new t true true (Some hold) there is e same = has-with_target new t hold ∙ ap (λ (o : Option HoldState). same_target new t || is_some_and o (λ it. has_target it t)) (sym (same refl))
put_by new t true false here there is e same = absurd cc
put_by new t false true here there is e same = absurd cc
put_by new t false false here there is e same = refl

pub target-held_on : (holds : HoldMap) (code : List ℕ) (new : Target) (q : List ℕ) (t : Target) → IsSome (get holds code)
    → is_some_and (get (held_on holds code new) q) (λ hold. has_target hold t) ≡ (is_pair code new q t || is_some_and (get holds q) (λ hold. has_target hold t))
target-held_on holds code new q t is =
    ap (λ (o : Option HoldState). is_some_and o (λ hold. has_target hold t)) (get-amended holds code (with_target new) q)
    ∙ put_by new t (eq_by_cmp code_cmp q code) (bytes_eq code q) (get holds code) (get holds q) is (tied_code q code) (λ tie. ap (get holds) (same_code q code tie))

-- ---- the columns of all holds

kept : (b : Bool) (v : HoldState) (here there : Option HoldState) → here ≡ Some v → (b ≡ true → there ≡ here) → cond b (Some v) there ≡ there
kept true v here there e same = sym (same refl ∙ e)
kept false v here there e same = refl

-- what is there already changes nothing when it is put in
insert_same : (m : HoldMap) (k : List ℕ) (v : HoldState) → get m k ≡ Some v → insert m k v ≡ m
insert_same m k v e = same_map nat_list_cmp_total codes_apart (insert m k v) m (λ q. get-insert nat_list_cmp_total m k v q ∙ kept (eq_by_cmp code_cmp q k) v (get m k) (get m q) e (λ tie. ap (get m) (same_code q k tie)))

module _ {V W : Type 0} (f : V → W) where
  -- the same codes with what is made of the values
  abbrev pub rows_by : List (List ℕ × V) → List (List ℕ × W)
  rows_by es = map (λ e. (e.0, f e.1)) es

  rows_by-put : (k : List ℕ) (v : V) (es : List (List ℕ × V)) → rows_by (put code_cmp k v es) ≡ put code_cmp k (f v) (rows_by es)
  rows_by-put k v [] = refl
  rows_by-put k v (e ∷ es) =
      elim (code_cmp k e.0) as (λ r. rows_by (by_order r ((k, v) ∷ e ∷ es) ((e.0, v) ∷ es) (e ∷ put code_cmp k v es)) ≡ by_order r ((k, f v) ∷ (e.0, f e.1) ∷ rows_by es) ((e.0, f v) ∷ rows_by es) ((e.0, f e.1) ∷ put code_cmp k (f v) (rows_by es))) [
        | Less ↦ refl
        | Equal ↦ refl
        | Greater ↦ ap (λ rest. (e.0, f e.1) ∷ rest) (rows_by-put k v es)
      ]

  pub rows_by-find : (q : List ℕ) (es : List (List ℕ × V)) → find code_cmp q (rows_by es) ≡ option_map f (find code_cmp q es)
  rows_by-find q [] = refl
  rows_by-find q (e ∷ es) =
      elim (eq_by_cmp code_cmp q e.0) as (λ b. cond b (Some (f e.1)) (find code_cmp q (rows_by es)) ≡ option_map f (cond b (Some e.1) (find code_cmp q es))) [ true ↦ refl | false ↦ rows_by-find q es ]

-- what is found among the columns
pub find-hold_rows : (holds : HoldMap) (q : List ℕ) → find code_cmp q (hold_rows holds) ≡ option_map hold_row (get holds q)
find-hold_rows holds q = rows_by-find hold_row q (entries holds) ∙ ap (option_map hold_row) (sym (get-entries holds q))

-- the rows of holds with one put in
pub rows-insert : (holds : HoldMap) (k : List ℕ) (v : HoldState) → hold_rows (insert holds k v) ≡ put code_cmp k (hold_row v) (hold_rows holds)
rows-insert holds k v = ap (rows_by hold_row) (entries-insert nat_list_cmp_total holds k v) ∙ rows_by-put hold_row k v (entries holds)

rows-put_by : (holds : HoldMap) (k : List ℕ) (new : Target) (x : Option HoldState) → get holds k ≡ x → hold_rows (amended_by holds k (with_target new) x) ≡ hold_rows holds
rows-put_by holds k new None e = refl
rows-put_by holds k new (Some v) e =
    rows-insert holds k (with_target new v) ∙ ap (λ w. put code_cmp k w (hold_rows holds)) (row-with_target new v) ∙ sym (rows-insert holds k v) ∙ ap hold_rows (insert_same holds k v e)

-- a target that is put on a hold changes no columns
pub rows-held_on : (holds : HoldMap) (code : List ℕ) (new : Target) → hold_rows (held_on holds code new) ≡ hold_rows holds
rows-held_on holds code new = rows-put_by holds code new (get holds code) refl
