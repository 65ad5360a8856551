-- What tests of each hold and of each key of its sets report of the holds.
use Rattle.std.proofs.Common.{◌≡◌, ◌<◌, ◌≤◌, ℕ, List, Bool, true, false, Option, Some, IsTrue, sym, subst, ◌∙◌, true≢false}
use Rattle.std.specs.declared.cmp.Ordering.{Ordering}
use Rattle.std.specs.Ordering.{nat_cmp}
use Rattle.std.specs.Cmp.{IsTotalOrder, Equal-is, eq_by_cmp_equiv, nat_cmp_total}
use Rattle.std.specs.Cmp.Lexicographic.{nat_list_cmp_total}
use Rattle.std.specs.List.{All, Contains}
use Rattle.std.specs.FinMap.{IsAntisymmetric, get, from_entries, nat_cmp-IsAntisymmetric, slice_cmp-IsAntisymmetric}
use Rattle.std.specs.FinSet.{contains, from_list, contains-from_list}
use Rattle.std.specs.Prelude.{IfSome, nat_le, ◌&&◌}
use Rattle.std.proofs.lemmas.List.Elements.{All-contains}
use Rattle.std.proofs.lemmas.Map.Views.{All-from_any, Contains-from_any, IfSome-lookup}
use Rattle.office_records.specs.Tree.{code_cmp}
use Rattle.office_records.proofs.Inserting.{same_code}
use Rattle.office_records.proofs.Named.{and_2, all_2, le_of, le_to}
use Rattle.office_records.proofs.Plan.{get_is}

-- no test that holds is one that fails
pub not_both : (b : Bool) → b ≡ true → b ≡ false → ⊥
not_both b holds fails = true≢false (sym holds ∙ fails)

-- ---- the keys of a set

module _ {K : Type 0} {R : K → K → Ordering} (o : IsTotalOrder R) (same : IsAntisymmetric R) where
  -- what holds of each key holds of what the set has
  at_keys : (P : K → Type 0) (ks : List K) → All P ks → (q : K) → IsTrue (contains (from_list {R = R} ks) q) → P q
  at_keys P ks all q has = All-contains P ks q all (Contains-from_any (λ x y tie. same x y ((Equal-is (R x y)).0 tie)) q ks (sym (contains-from_list o ks q) ∙ has))

  -- and back
  from_keys : (P : K → Type 0) (ks : List K) → ((q : K) → IsTrue (contains (from_list {R = R} ks) q) → P q) → All P ks
  from_keys P ks each = All-from_any (eq_by_cmp_equiv o) P ks (λ q found. each q (contains-from_list o ks q ∙ found))

pub at_codes : (P : List ℕ → Type 0) (ks : List (List ℕ)) → All P ks → (q : List ℕ) → IsTrue (contains (from_list {R = code_cmp} ks) q) → P q
at_codes = at_keys nat_list_cmp_total (slice_cmp-IsAntisymmetric nat_cmp-IsAntisymmetric)

pub from_codes : (P : List ℕ → Type 0) (ks : List (List ℕ)) → ((q : List ℕ) → IsTrue (contains (from_list {R = code_cmp} ks) q) → P q) → All P ks
from_codes = from_keys nat_list_cmp_total (slice_cmp-IsAntisymmetric nat_cmp-IsAntisymmetric)

-- ---- numbers from 1 to a count

abbrev is_number : ℕ → ℕ → Bool
is_number count n = nat_le 1 n && nat_le n count

pub at_numbers : (count : ℕ) (ks : List ℕ) → All (λ n. is_number count n ≡ true) ks → (q : ℕ) → IsTrue (contains (from_list {R = nat_cmp} ks) q) → (0 < q) × (q ≤ count)
at_numbers count ks all q has =
    let both = and_2 (nat_le 1 q) (nat_le q count) (at_keys nat_cmp_total nat_cmp-IsAntisymmetric (λ n. is_number count n ≡ true) ks all q has) in
    (le_of 1 q both.0, le_of q count both.1)

pub from_numbers : (count : ℕ) (ks : List ℕ) → ((q : ℕ) → IsTrue (contains (from_list {R = nat_cmp} ks) q) → (0 < q) × (q ≤ count)) → All (λ n. is_number count n ≡ true) ks
from_numbers count ks each = from_keys nat_cmp_total nat_cmp-IsAntisymmetric (λ n. is_number count n ≡ true) ks
    (λ q has. all_2 (nat_le 1 q) (nat_le q count) (le_to 1 q (each q has).0) (le_to q count (each q has).1))

-- ---- the entries of a map

-- what holds of each entry holds of what is at each code
pub at_entries : {V : Type 0} (P : List ℕ → V → Type 0) (es : List (List ℕ × V)) → All (λ it. P it.0 it.1) es → (q : List ℕ) (v : V) → get (from_entries {R = code_cmp} es) q ≡ Some v → P q v
at_entries {V} P es all q v e =
    let found : Option V → Type 0 = λ o. IfSome o (λ x. Contains es (q, x)) in
    All-contains (λ it. P it.0 it.1) es (q, v) all (subst found (sym (get_is es q) ∙ e) (IfSome-lookup same_code q es))
