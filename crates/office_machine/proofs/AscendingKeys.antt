-- Keys that ascend, and one more of them.
use Rattle.std.proofs.Common.{◌≡◌, ℕ, ◌-◌, ◌<◌, List, [], ◌∷◌, ◌++◌, length, get_or, All, Some, Bool, true, false, sym, ap, ◌∙◌, arith, inl, inr}
use Rattle.std.specs.Cmp.{nat_cmp_is, ranked}
use Rattle.std.specs.List.{AllByRecursion}
use Rattle.std.specs.List.Sorted.{IsStrictlySortedBy}
use Rattle.std.specs.Ordering.{nat_cmp}
use Rattle.std.specs.Prelude.{slice_get, if◌then◌else◌}
use Rattle.std.specs.declared.cmp.Ordering.TheVariants.{Less}
use Rattle.std.proofs.lemmas.Bool.{cases_lt}
use Rattle.std.proofs.lemmas.List.Elements.{recursion_from_All}
use Rattle.std.proofs.lemmas.Map.Keys.{below_from_sorted}
use Rattle.std.proofs.lemmas.Option.{get_or_from_slice_get}

-- what is above the last is above all
pub below_all : (keys : List ℕ) (last n : ℕ) → IsStrictlySortedBy nat_cmp keys → slice_get keys (length keys - 1) ≡ Some last → last < n → All (λ q. nat_cmp q n ≡ Less) keys
below_all keys last n ordered at less k d low =
    let end : get_or keys (length keys - 1) d ≡ last = get_or_from_slice_get keys (length keys - 1) last d at in
    elim (cases_lt k (length keys - 1)) [
      | inl before ↦
          let under = below_from_sorted keys k (length keys - 1) d ordered before (omega (arith, low)) in
          sym (nat_cmp_is (get_or keys k d) n Less (omega (arith, under, end, less)))
      | inr here ↦
          let same : k ≡ length keys - 1 = omega (arith, low, here) in
          let is : get_or keys k d ≡ last = ap (λ i. get_or keys i d) same ∙ end in
          sym (nat_cmp_is (get_or keys k d) n Less (omega (arith, is, less)))
    ]

-- and what is above all is above the last
pub above_last : (keys : List ℕ) (last n : ℕ) → 0 < length keys → slice_get keys (length keys - 1) ≡ Some last → All (λ q. nat_cmp q n ≡ Less) keys → last < n
above_last keys last n some at all =
    let end : get_or keys (length keys - 1) last ≡ last = get_or_from_slice_get keys (length keys - 1) last last at in
    let under : get_or keys (length keys - 1) last < n = ranked (get_or keys (length keys - 1) last) n Less (sym (all (length keys - 1) last (omega (arith, some)))) in
    omega (arith, end, under)

all_push : {A : Type 0} (P : A → Type 0) (xs : List A) (x : A) → AllByRecursion P xs → P x → AllByRecursion P (xs ++ x ∷ [])
all_push P [] x all here = (here, tt)
all_push P (y ∷ ys) x all here = (all.0, all_push P ys x all.1 here)

ascend_push : (keys : List ℕ) (n : ℕ) → IsStrictlySortedBy nat_cmp keys → AllByRecursion (λ q. nat_cmp q n ≡ Less) keys → IsStrictlySortedBy nat_cmp (keys ++ n ∷ [])
unfolding IsStrictlySortedBy
ascend_push [] n ordered below = (tt, tt)
ascend_push (k ∷ keys) n ordered below = (all_push (λ q. nat_cmp k q ≡ Less) keys n ordered.0 below.0, ascend_push keys n ordered.1 below.1)

-- keys ascend with one more that is above all
ascend_more : (keys : List ℕ) (n : ℕ) → IsStrictlySortedBy nat_cmp keys → All (λ q. nat_cmp q n ≡ Less) keys → IsStrictlySortedBy nat_cmp (keys ++ n ∷ [])
ascend_more keys n ordered below = ascend_push keys n ordered (recursion_from_All (λ q. nat_cmp q n ≡ Less) keys below)

-- and with or without it
pub ascend_pushed : (pushes : Bool) (keys : List ℕ) (n : ℕ) → IsStrictlySortedBy nat_cmp keys → All (λ q. nat_cmp q n ≡ Less) keys → IsStrictlySortedBy nat_cmp (if pushes then keys ++ n ∷ [] else keys)
ascend_pushed true keys n ordered below = ascend_more keys n ordered below
ascend_pushed false keys n ordered below = ordered

pub none_ascend : IsStrictlySortedBy nat_cmp []
unfolding IsStrictlySortedBy
none_ascend = tt
