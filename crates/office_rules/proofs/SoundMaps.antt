-- What a map or a numbered list has after a change at one place.
use Rattle.std.proofs.Common.{◌≡◌, ◌≢◌, ℕ, zero, suc, ◌+◌, List, [], ◌∷◌, ◌++◌, length, Option, Some, None, refl, sym, ap, ◌∙◌, subst, cond, Bool, true, false, ◌⊎◌, inl, inr, arith}
use Rattle.std.specs.Prelude.{slice_get, IsSome}
use Rattle.std.specs.Option.{is_some}
use Rattle.std.specs.declared.cmp.Ordering.{Ordering}
use Rattle.std.specs.declared.cmp.Ordering.TheVariants.{Less, Equal, Greater}
use Rattle.std.specs.Ordering.{is_eq, eq_by_cmp, nat_cmp, ordering_then}
use Rattle.std.specs.Cmp.{IsTotalOrder, Equal-is, tied_itself, nat_cmp_total, on_total}
use Rattle.std.proofs.lemmas.Cmp.{then_total}
use Rattle.std.specs.FinMap.{FinMap, IsAntisymmetric, get, insert, remove, get-insert, get-remove, nat_cmp-IsAntisymmetric}
use Rattle.office_records.specs.Lists.{numbered, edited, edited_at}
use Rattle.office_records.proofs.Places.{numbered_push}
use Rattle.office_rules.specs.State.{entry_cmp}

-- ---- things that are there or not

pub some_is : {A : Type 0} (o : Option A) → IsSome o → (x : A) × (o ≡ Some x)
some_is None e = absurd cc
some_is (Some x) e = (x, refl)

-- there is one thing at most
pub one_there : {A : Type 0} (o : Option A) (x y : A) → o ≡ Some x → o ≡ Some y → x ≡ y
one_there o x y e f = cc

pub is_there : {A : Type 0} (o : Option A) (x : A) → o ≡ Some x → IsSome o
is_there o x e = ap is_some e

-- ---- maps

pub entry_total : IsTotalOrder entry_cmp
entry_total = then_total (on_total (λ (p : ℕ × ℕ). p.0) nat_cmp_total) (on_total (λ (p : ℕ × ℕ). p.1) nat_cmp_total)

both_equal : (a b : Ordering) → ordering_then a b ≡ Equal → (a ≡ Equal) × (b ≡ Equal)
both_equal Less b e = absurd cc
both_equal Equal b e = (refl, e)
both_equal Greater b e = absurd cc

pub entry_cmp-IsAntisymmetric : IsAntisymmetric entry_cmp
entry_cmp-IsAntisymmetric x y e =
    let both = both_equal (nat_cmp x.0 y.0) (nat_cmp x.1 y.1) e in
    let first = nat_cmp-IsAntisymmetric x.0 y.0 both.0 in
    let second = nat_cmp-IsAntisymmetric x.1 y.1 both.1 in
    λ i. (first i, second i)

cond_cases : {V P : Type 0} (b : Bool) (v : V) (o : Option V) (x : V) → (b ≡ true → P) → cond b (Some v) o ≡ Some x → (P × (v ≡ x)) ⊎ (o ≡ Some x)
cond_cases true v o x here e = inl (here refl, cc)
cond_cases false v o x here e = inr e

apart : (b : Bool) → (b ≡ true → ⊥) → b ≡ false
apart true h = absurd (h refl)
apart false h = refl

pub tied_same : {K : Type 0} {R : K → K → Ordering} → IsAntisymmetric R → (q k : K) → eq_by_cmp R q k ≡ true → q ≡ k
tied_same {R = R} same q k e = same q k ((Equal-is (R q k)).0 e)

module _ {K V : Type 0} {R : K → K → Ordering} (o : IsTotalOrder R) (same : IsAntisymmetric R) where
  -- what is there is the new thing at its key, or was there
  pub put_cases : (m : FinMap R V) (k : K) (v : V) (q : K) (x : V) → get (insert m k v) q ≡ Some x → ((q ≡ k) × (v ≡ x)) ⊎ (get m q ≡ Some x)
  put_cases m k v q x e = cond_cases (eq_by_cmp R q k) v (get m q) x (tied_same same q k) (sym (get-insert o m k v q) ∙ e)

  pub put_here : (m : FinMap R V) (k : K) (v : V) → get (insert m k v) k ≡ Some v
  put_here m k v = get-insert o m k v k ∙ ap (λ t. cond (is_eq t) (Some v) (get m k)) (tied_itself o k)

  pub put_elsewhere : (m : FinMap R V) (k : K) (v : V) (q : K) → q ≢ k → get (insert m k v) q ≡ get m q
  put_elsewhere m k v q other = get-insert o m k v q ∙ ap (λ b. cond b (Some v) (get m q)) (apart (eq_by_cmp R q k) (λ e. other (tied_same same q k e)))

  pub removed_here : (m : FinMap R V) (k : K) → get (remove m k) k ≡ None
  removed_here m k = get-remove o m k k ∙ ap (λ t. cond (is_eq t) None (get m k)) (tied_itself o k)

  pub removed_elsewhere : (m : FinMap R V) (k q : K) → q ≢ k → get (remove m k) q ≡ get m q
  removed_elsewhere m k q other = get-remove o m k q ∙ ap (λ b. cond b None (get m q)) (apart (eq_by_cmp R q k) (λ e. other (tied_same same q k e)))

-- ---- numbered lists

-- two numbers are the same or not
pub same_or_not : (a b : ℕ) → (a ≡ b) ⊎ (a ≢ b)
same_or_not zero zero = inl refl
same_or_not zero (suc b) = inr (λ e. absurd (omega arith))
same_or_not (suc a) zero = inr (λ e. absurd (omega arith))
same_or_not (suc a) (suc b) = elim (same_or_not a b) [ inl same ↦ inl (ap suc same) | inr other ↦ inr (λ e. other (omega arith)) ]

pushed_keeps_at : {A : Type 0} (xs : List A) (x : A) (i : ℕ) (y : A) → slice_get xs i ≡ Some y → slice_get (xs ++ x ∷ []) i ≡ Some y
pushed_keeps_at [] x i y e = absurd cc
pushed_keeps_at (z ∷ zs) x zero y e = e
pushed_keeps_at (z ∷ zs) x (suc i) y e = pushed_keeps_at zs x i y e

pub pushed_keeps : {A : Type 0} (xs : List A) (x : A) (n : ℕ) (y : A) → numbered xs n ≡ Some y → numbered (xs ++ x ∷ []) n ≡ Some y
pushed_keeps xs x zero y e = e
pushed_keeps xs x (suc n) y e = pushed_keeps_at xs x n y e

-- what is said of each that is there and of a new one is said of all
pub pushed_all : {A : Type 0} (P : ℕ → A → Type 0) (xs : List A) (x : A) → ((n : ℕ) (y : A) → numbered xs n ≡ Some y → P n y) → P (length xs + 1) x → (n : ℕ) (y : A) → numbered (xs ++ x ∷ []) n ≡ Some y → P n y
pushed_all {A} P xs x all here n y e = elim (numbered_push xs x y n e) [
  | inl old ↦ all n y old
  | inr new ↦ subst (λ (z : A). P n z) new.1 (subst (λ (k : ℕ). P k x) (sym new.0) here)
]

edited_here_at : {A : Type 0} (xs : List A) (i : ℕ) (f : A → A) (x : A) → slice_get xs i ≡ Some x → slice_get (edited_at xs i f) i ≡ Some (f x)
edited_here_at [] i f x e = absurd cc
edited_here_at (y ∷ ys) zero f x e = let same : y ≡ x = cc in ap (λ z. Some (f z)) same
edited_here_at (y ∷ ys) (suc i) f x e = edited_here_at ys i f x e

pub edited_here : {A : Type 0} (xs : List A) (n : ℕ) (f : A → A) (x : A) → numbered xs n ≡ Some x → numbered (edited xs n f) n ≡ Some (f x)
edited_here xs zero f x e = absurd cc
edited_here xs (suc n) f x e = edited_here_at xs n f x e

edited_elsewhere_at : {A : Type 0} (xs : List A) (i j : ℕ) (f : A → A) → j ≢ i → slice_get (edited_at xs i f) j ≡ slice_get xs j
edited_elsewhere_at [] i j f other = refl
edited_elsewhere_at (x ∷ xs) zero zero f other = absurd (other refl)
edited_elsewhere_at (x ∷ xs) zero (suc j) f other = refl
edited_elsewhere_at (x ∷ xs) (suc i) zero f other = refl
edited_elsewhere_at (x ∷ xs) (suc i) (suc j) f other = edited_elsewhere_at xs i j f (λ e. other (ap suc e))

pub edited_elsewhere : {A : Type 0} (xs : List A) (a n : ℕ) (f : A → A) → n ≢ a → numbered (edited xs a f) n ≡ numbered xs n
edited_elsewhere xs zero n f other = refl
edited_elsewhere xs (suc a) zero f other = refl
edited_elsewhere xs (suc a) (suc n) f other = edited_elsewhere_at xs a n f (λ e. other (ap suc e))
