-- Things by number, and as places of a list.
use Rattle.std.proofs.Common.{◌≡◌, ℕ, zero, suc, ◌+◌, ◌-◌, ◌<◌, ◌≤◌, List, [], ◌∷◌, ◌++◌, length, get_or, set, Option, Some, refl, sym, ap, ◌∙◌, arith, ◌⊎◌, inl, inr}
use Rattle.std.specs.Prelude.{slice_get}
use Rattle.std.proofs.lemmas.List.{get_or_default}
use Rattle.office_records.specs.Lists.{numbered, edited, edited_at}

-- the number of a place
pub numbered_at : {A : Type 0} (xs : List A) (n i : ℕ) → n ≡ i + 1 → numbered xs n ≡ slice_get xs i
numbered_at xs zero i e = absurd (omega arith)
numbered_at xs (suc n) i e = let same : n ≡ i = omega arith in ap (slice_get xs) same

edited_at_read : {A : Type 0} (xs : List A) (i : ℕ) (f : A → A) (x : A) → i < length xs → x ≡ get_or xs i x → edited_at xs i f ≡ set xs i (f x)
edited_at_read [] i f x h e = absurd (omega arith)
edited_at_read (y ∷ ys) zero f x h e = ap (λ z. f z ∷ ys) (sym e)
edited_at_read (y ∷ ys) (suc i) f x h e = ap (λ zs. y ∷ zs) (edited_at_read ys i f x (omega arith) e)

-- a change of what was read is a write of the changed value
pub edited_read : {A : Type 0} (xs : List A) (n i : ℕ) (f : A → A) (x : A) → n ≡ i + 1 → i < length xs → x ≡ get_or xs i x → edited xs n f ≡ set xs i (f x)
edited_read xs zero i f x n_is h e = absurd (omega arith)
edited_read xs (suc n) i f x n_is h e = let same : n ≡ i = omega arith in ap (λ k. edited_at xs k f) same ∙ edited_at_read xs i f x h e

-- and so is a write of what it is equal to
pub edited_put : {A : Type 0} (xs : List A) (n : ℕ) (f : A → A) (x y : A) → (0 < n) × (n ≤ length xs) → x ≡ get_or xs (n - 1) x → y ≡ f x → edited xs n f ≡ set xs (n - 1) y
edited_put xs n f x y within e is = edited_read xs n (n - 1) f x (omega (arith, within.0)) (omega (arith, within.0, within.1)) e ∙ ap (set xs (n - 1)) (sym is)

edited_at_same : {A : Type 0} (xs : List A) (i : ℕ) (y : A) → edited_at xs i (λ _. y) ≡ set xs i y
edited_at_same [] i y = refl
edited_at_same (x ∷ xs) zero y = refl
edited_at_same (x ∷ xs) (suc i) y = ap (λ zs. x ∷ zs) (edited_at_same xs i y)

-- a change to one value, whatever is there, is a write of that value
pub edited_same : {A : Type 0} (xs : List A) (n : ℕ) (y : A) → 0 < n → edited xs n (λ _. y) ≡ set xs (n - 1) y
edited_same xs zero y h = absurd (omega (arith, h))
edited_same xs (suc n) y h = let same : n ≡ suc n - 1 = omega arith in edited_at_same xs n y ∙ ap (λ k. set xs k y) same

numbered_within_at : {A : Type 0} (xs : List A) (i : ℕ) (x : A) → slice_get xs i ≡ Some x → i < length xs
numbered_within_at [] i x e = absurd cc
numbered_within_at (y ∷ ys) zero x e = omega arith
numbered_within_at (y ∷ ys) (suc i) x e = let h = numbered_within_at ys i x e in omega (arith, h)

-- a number that is there
pub numbered_within : {A : Type 0} (xs : List A) (n : ℕ) (x : A) → numbered xs n ≡ Some x → (0 < n) × (n ≤ length xs)
numbered_within xs zero x e = absurd cc
numbered_within xs (suc n) x e = let h = numbered_within_at xs n x e in (omega arith, omega (arith, h))

slice_get_push : {A : Type 0} (xs : List A) (x y : A) (i : ℕ) → slice_get (xs ++ x ∷ []) i ≡ Some y → (slice_get xs i ≡ Some y) ⊎ ((i ≡ length xs) × (x ≡ y))
slice_get_push [] x y zero e = inr (refl, cc)
slice_get_push [] x y (suc i) e = absurd cc
slice_get_push (z ∷ zs) x y zero e = inl e
slice_get_push (z ∷ zs) x y (suc i) e = elim (slice_get_push zs x y i e) [ inl old ↦ inl old | inr new ↦ inr (ap suc new.0, new.1) ]

-- what is there after a push was there, or is the new one
pub numbered_push : {A : Type 0} (xs : List A) (x y : A) (n : ℕ) → numbered (xs ++ x ∷ []) n ≡ Some y → (numbered xs n ≡ Some y) ⊎ ((n ≡ length xs + 1) × (x ≡ y))
numbered_push xs x y zero e = absurd cc
numbered_push xs x y (suc n) e = elim (slice_get_push xs x y n e) [ inl old ↦ inl old | inr new ↦ let is : n ≡ length xs = new.0 in inr (omega arith, new.1) ]

-- a thing that was there, unchanged, or changed and then at the change's place
abbrev pub Came : {A : Type 0} → Option A → Type 0 → (A → A) → A → Type 0
Came {A} old here f y = (x : A) × (old ≡ Some x) × ((y ≡ x) ⊎ (here × (y ≡ f x)))

one_on : {A : Type 0} (old : Option A) (i a : ℕ) (f : A → A) (y : A) → Came old (i ≡ a) f y → Came old (suc i ≡ suc a) f y
one_on old i a f y came = (came.0, came.1, elim came.2 [ inl same ↦ inl same | inr changed ↦ inr (ap suc changed.0, changed.1) ])

slice_get_edited : {A : Type 0} (xs : List A) (a : ℕ) (f : A → A) (y : A) (i : ℕ) → slice_get (edited_at xs a f) i ≡ Some y → Came (slice_get xs i) (i ≡ a) f y
slice_get_edited [] a f y i e = absurd cc
slice_get_edited (x ∷ xs) zero f y zero e = (x, refl, inr (refl, cc))
slice_get_edited (x ∷ xs) zero f y (suc i) e = (y, e, inl refl)
slice_get_edited (x ∷ xs) (suc a) f y zero e = (x, refl, inl cc)
slice_get_edited (x ∷ xs) (suc a) f y (suc i) e = one_on (slice_get xs i) i a f y (slice_get_edited xs a f y i e)

-- what is there after a change was there, changed or not
pub numbered_edited : {A : Type 0} (xs : List A) (a : ℕ) (f : A → A) (y : A) (n : ℕ) → numbered (edited xs a f) n ≡ Some y → Came (numbered xs n) (n ≡ a) f y
numbered_edited xs zero f y n e = (y, e, inl refl)
numbered_edited xs (suc a) f y zero e = absurd cc
numbered_edited xs (suc a) f y (suc n) e = one_on (slice_get xs n) n a f y (slice_get_edited xs a f y n e)

length-edited_at : {A : Type 0} (xs : List A) (i : ℕ) (f : A → A) → length (edited_at xs i f) ≡ length xs
length-edited_at [] i f = refl
length-edited_at (x ∷ xs) zero f = refl
length-edited_at (x ∷ xs) (suc i) f = ap suc (length-edited_at xs i f)

pub length-edited : {A : Type 0} (xs : List A) (n : ℕ) (f : A → A) → length (edited xs n f) ≡ length xs
length-edited xs zero f = refl
length-edited xs (suc n) f = length-edited_at xs n f

slice_get_read : {A : Type 0} (xs : List A) (i : ℕ) (x : A) → i < length xs → x ≡ get_or xs i x → slice_get xs i ≡ Some x
slice_get_read [] i x h e = absurd (omega arith)
slice_get_read (y ∷ ys) zero x h e = ap Some (sym e)
slice_get_read (y ∷ ys) (suc i) x h e = slice_get_read ys i x (omega arith) e

-- what was read at place n - 1 is number n
pub numbered_read : {A : Type 0} (xs : List A) (n : ℕ) (x : A) → 0 < n → n ≤ length xs → x ≡ get_or xs (n - 1) x → numbered xs n ≡ Some x
numbered_read xs zero x low high e = absurd (omega arith)
numbered_read xs (suc n) x low high e = let same : suc n - 1 ≡ n = omega arith in slice_get_read xs n x (omega arith) (e ∙ ap (λ k. get_or xs k x) same)

-- a place of a slice, at any default
pub numbered_or : {A : Type 0} (xs : List A) (n : ℕ) (d : A) → 0 < n → n ≤ length xs → numbered xs n ≡ Some (get_or xs (n - 1) d)
numbered_or xs n d low high = numbered_read xs n (get_or xs (n - 1) d) low high (get_or_default xs (n - 1) d (get_or xs (n - 1) d) (omega arith))
