-- What the model's map of entries has.
use Rattle.std.proofs.Common.{◌≡◌, ℕ, zero, suc, ◌+◌, ◌<◌, List, [], ◌∷◌, length, Some, Option, refl, sym, ap, ◌∙◌, cond, arith, map, true, false, T, Bool}
use Rattle.std.specs.Prelude.{slice_get, ◌&&◌}
use Rattle.std.specs.Ordering.{is_lt}
use Rattle.std.specs.declared.cmp.Ordering.{Ordering}
use Rattle.std.specs.declared.cmp.Ordering.TheVariants.{Less, Equal, Greater}
use Rattle.std.specs.Cmp.{IsTotalOrder}
use Rattle.std.specs.List.{AllByRecursion}
use Rattle.std.specs.List.Sorted.{IsStrictlySortedBy}
use Rattle.std.specs.Map.{lookup, keys_of}
use Rattle.std.specs.BTreeMap.{is_at}
use Rattle.std.specs.FinMap.{FinMap, get, entries, from_entries, find, get-from_entries, empty, entries-insert, len-entries, len-empty, entries_sorted}
use Rattle.std.specs.FinMap.Entries.{put, by_order, below_all, is_sorted}

find_is : {K V : Type 0} (R : K → K → Ordering) (es : List (K × V)) (q : K) → find R q es ≡ lookup (is_at (R q)) es
find_is R [] q = refl
find_is R (e ∷ es) q = ap (cond (is_at (R q) e.0) (Some e.1)) (find_is R es q)

pub get_is : {K V : Type 0} (R : K → K → Ordering) → IsTotalOrder R → (es : List (K × V)) (q : K) → get (from_entries {R = R} es) q ≡ lookup (is_at (R q)) es
get_is R o es q = get-from_entries o es q ∙ find_is R es q

no_length : {A : Type 0} (es : List A) → length es ≡ 0 → es ≡ []
no_length [] e = refl
no_length (x ∷ es) e = absurd (omega arith)

put_first : {K V : Type 0} (R : K → K → Ordering) (k : K) (v : V) (es : List (K × V)) → AllByRecursion (λ q. R k q ≡ Less) (keys_of es) → put R k v es ≡ (k, v) ∷ es
put_first R k v [] a = refl
put_first R k v (e ∷ es) a = ap (λ o. by_order o ((k, v) ∷ e ∷ es) ((e.0, v) ∷ es) (e ∷ put R k v es)) a.0

-- a map made of entries in order has them
pub entries_of_ordered : {K V : Type 0} (R : K → K → Ordering) → IsTotalOrder R → (es : List (K × V)) → IsStrictlySortedBy R (keys_of es) → entries (from_entries {R = R} es) ≡ es
unfolding IsStrictlySortedBy
entries_of_ordered {K} {V} R t [] o = no_length _ (sym (len-entries (empty {X = V} {R = R})) ∙ len-empty R V)
entries_of_ordered R t (e ∷ es) o =
    entries-insert t (from_entries es) e.0 e.1
    ∙ ap (put R e.0 e.1) (entries_of_ordered R t es o.1)
    ∙ put_first R e.0 e.1 es o.0

less : (o : Ordering) → T (is_lt o) → o ≡ Less
less Less p = refl
less Equal p = absurd p
less Greater p = absurd p

first : (a b : Bool) → T (a && b) → T a
first true b p = tt
first false b p = p

second : (a b : Bool) → T (a && b) → T b
second true b p = p
second false b p = absurd p

above_all : {K V : Type 0} (R : K → K → Ordering) (k : K) (es : List (K × V)) → T (below_all R k es) → AllByRecursion (λ q. R k q ≡ Less) (keys_of es)
above_all R k [] h = tt
above_all R k (e ∷ es) h = (less _ (first (is_lt (R k e.0)) (below_all R k es) h), above_all R k es (second (is_lt (R k e.0)) (below_all R k es) h))

sorted_of : {K V : Type 0} (R : K → K → Ordering) (es : List (K × V)) → T (is_sorted R es) → IsStrictlySortedBy R (keys_of es)
unfolding IsStrictlySortedBy
sorted_of R [] h = tt
sorted_of R (e ∷ es) h = (above_all R e.0 es (first (below_all R e.0 es) (is_sorted R es) h), sorted_of R es (second (below_all R e.0 es) (is_sorted R es) h))

-- the keys of a map ascend
pub keys_ascend : {K V : Type 0} (R : K → K → Ordering) (m : FinMap R V) → IsStrictlySortedBy R (keys_of (entries m))
keys_ascend R m = sorted_of R (entries m) (entries_sorted m)

-- at each number up to the length there is something
pub numbered_there : {A : Type 0} (xs : List A) (i : ℕ) → i < length xs → (x : A) × (slice_get xs i ≡ Some x)
numbered_there [] i h = absurd (omega arith)
numbered_there (x ∷ xs) zero h = (x, refl)
numbered_there (x ∷ xs) (suc i) h = numbered_there xs i (omega arith)
