-- Keys that ascend, row by row.
use Rattle.std.proofs.Common.{◌≡◌, ◌≢◌, ◌<◌, ℕ, zero, suc, ◌-◌, List, [], ◌∷◌, ◌++◌, length, Some, None, Bool, true, false, refl, sym, ap, ◌∙◌, subst, append_assoc, arith, map, get_or, IsTrue}
use Rattle.std.specs.Prelude.{slice_get}
use Rattle.std.specs.declared.cmp.Ordering.{Ordering}
use Rattle.std.specs.declared.cmp.Ordering.TheVariants.{Less, Equal, Greater}
use Rattle.std.specs.Ordering.{is_lt, ordering_reverse, match_ordering}
use Rattle.std.specs.Cmp.{IsTotalOrder}
use Rattle.std.specs.List.{All, AllByRecursion}
use Rattle.std.specs.List.Sorted.{IsStrictlySortedBy}
use Rattle.std.specs.Map.{keys_of}
use Rattle.std.specs.BTreeMap.{insert_entry}
use Rattle.std.specs.FinMap.{FinMap, entries}
use Rattle.office_base.proofs.Maps.{keys_ascend}
use Rattle.std.proofs.lemmas.List.Elements.{All-from_recursion, All-head, All-tail, All-weaker}

-- a key above all goes to the end
pub at_end : {K V : Type 0} {R : K → K → Ordering} → IsTotalOrder R → (es : List (K × V)) (k : K) (v : V) → All (λ q. R q k ≡ Less) (keys_of es) → insert_entry R es k v ≡ es ++ (k, v) ∷ []
at_end o [] k v all = refl
at_end {K} {V} {R} o (e ∷ es) k v all =
    let above : R k e.0 ≡ Greater = o.antisymm k e.0 ∙ ap ordering_reverse (All-head (λ q. R q k ≡ Less) e.0 (keys_of es) all) in
    ap (λ r. match_ordering r ((k, v) ∷ e ∷ es) ((e.0, v) ∷ es) (e ∷ insert_entry R es k v)) above
    ∙ ap (λ rest. e ∷ rest) (at_end o es k v (All-tail (λ q. R q k ≡ Less) e.0 (keys_of es) all))

-- what is not above the last is below a key that the last is below
by_cases : {K : Type 0} {R : K → K → Ordering} → IsTotalOrder R → (last q k : K) (r : Ordering) → R last q ≡ r → is_lt r ≡ false → R last k ≡ Less → R q k ≡ Less
by_cases o last q k Less e f g = absurd cc
by_cases o last q k Equal e f g = sym (o.congr last q k e) ∙ g
by_cases o last q k Greater e f g = o.trans q last k (o.antisymm q last ∙ ap ordering_reverse e) g

pub below_last : {K : Type 0} {R : K → K → Ordering} → IsTotalOrder R → (ks : List K) (last k : K) → All (λ q. is_lt (R last q) ≡ false) ks → R last k ≡ Less → All (λ q. R q k ≡ Less) ks
below_last {K} {R} o ks last k upto below = All-weaker (λ q. is_lt (R last q) ≡ false) (λ q. R q k ≡ Less) (λ q h. by_cases o last q k (R last q) refl h below) ks upto

-- the last entry's key is among the keys
pub has_last : {K V : Type 0} (P : K → Type 0) (es : List (K × V)) (i : ℕ) (e : K × V) → slice_get es i ≡ Some e → All P (keys_of es) → P e.0
has_last P [] i e at all = absurd cc
has_last P (x ∷ es) zero e at all = let same : x ≡ e = cc in subst (λ y. P y.0) same (All-head P x.0 (keys_of es) all)
has_last P (x ∷ es) (suc i) e at all = has_last P es i e at (All-tail P x.0 (keys_of es) all)

-- a row after others in a table in order is above them
pub above_prefix : {K V : Type 0} (R : K → K → Ordering) (es : List (K × V)) (k : K) (v : V) (rest : List (K × V)) → IsStrictlySortedBy R (keys_of (es ++ (k, v) ∷ rest)) → AllByRecursion (λ q. R q k ≡ Less) (keys_of es)
unfolding IsStrictlySortedBy
above_prefix R [] k v rest h = tt
above_prefix {K} {V} R (e ∷ es) k v rest h = (among es h.0, above_prefix R es k v rest h.1) where
  among : (fs : List (K × V)) → AllByRecursion (λ q. R e.0 q ≡ Less) (keys_of (fs ++ (k, v) ∷ rest)) → R e.0 k ≡ Less
  among [] a = a.0
  among (f ∷ fs) a = among fs a.1

-- in a map whose entries begin with these and one more, that one's key is above theirs
pub keyed_next : {K V : Type 0} (R : K → K → Ordering) (m : FinMap R V) (es : List (K × V)) (k : K) (v : V) (rest : List (K × V)) → entries m ≡ (es ++ (k, v) ∷ []) ++ rest → All (λ q. R q k ≡ Less) (keys_of es)
keyed_next R m es k v rest e =
    All-from_recursion (λ q. R q k ≡ Less) (keys_of es)
    (above_prefix R es k v rest (subst (λ es. IsStrictlySortedBy R (keys_of es)) (e ∙ append_assoc es ((k, v) ∷ []) rest) (keys_ascend R m)))
