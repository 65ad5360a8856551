-- A thing put into a list by its number.
use Rattle.std.proofs.Common.{◌≡◌, ℕ, zero, suc, ◌+◌, ◌<◌, ◌≤◌, List, [], ◌∷◌, ◌++◌, length, set, Some, refl, ap, ◌∙◌, arith, length-append}
use Rattle.std.specs.Prelude.{slice_get}
use Rattle.office_records.specs.Lists.{numbered, edited, edited_at, put, put_at}

put_at_within : {A : Type 0} (xs : List A) (i : ℕ) (x : A) → i < length xs → put_at xs i x ≡ set xs i x
put_at_within [] i x h = absurd (omega arith)
put_at_within (y ∷ ys) zero x h = refl
put_at_within (y ∷ ys) (suc i) x h = ap (λ zs. y ∷ zs) (put_at_within ys i x (omega arith))

-- a put of a number that is there is a write
pub put_within : {A : Type 0} (xs : List A) (n i : ℕ) (x : A) → n ≡ i + 1 → n ≤ length xs → put xs n x ≡ set xs i x
put_within xs zero i x n_is h = absurd (omega arith)
put_within xs (suc n) i x n_is h = let same : n ≡ i = omega arith in put_at_within xs n x (omega arith) ∙ ap (λ k. set xs k x) same

put_at_past : {A : Type 0} (xs : List A) (i : ℕ) (x : A) → length xs ≤ i → put_at xs i x ≡ xs ++ x ∷ []
put_at_past [] i x h = refl
put_at_past (y ∷ ys) zero x h = absurd (omega arith)
put_at_past (y ∷ ys) (suc i) x h = ap (λ zs. y ∷ zs) (put_at_past ys i x (omega arith))

-- a put past the end is a push
pub put_past : {A : Type 0} (xs : List A) (n : ℕ) (x : A) → length xs < n → put xs n x ≡ xs ++ x ∷ []
put_past xs zero x h = absurd (omega arith)
put_past xs (suc n) x h = put_at_past xs n x (omega arith)

-- to put the next number is to push
pub put_next : {A : Type 0} (xs : List A) (x : A) → put xs (length xs + 1) x ≡ xs ++ x ∷ []
put_next xs x = put_past xs (length xs + 1) x (omega arith)

put_at_edited : {A : Type 0} (xs : List A) (i : ℕ) (f : A → A) (x : A) → slice_get xs i ≡ Some x → put_at xs i (f x) ≡ edited_at xs i f
put_at_edited [] i f x e = absurd cc
put_at_edited (y ∷ ys) zero f x e = let same : x ≡ y = cc in ap (λ z. f z ∷ ys) same
put_at_edited (y ∷ ys) (suc i) f x e = ap (λ zs. y ∷ zs) (put_at_edited ys i f x e)

-- to put a changed row is to change it
pub put-edited : {A : Type 0} (xs : List A) (n : ℕ) (f : A → A) (x : A) → numbered xs n ≡ Some x → put xs n (f x) ≡ edited xs n f
put-edited xs zero f x e = refl
put-edited xs (suc n) f x e = put_at_edited xs n f x e

put_at_edited_to : {A : Type 0} (xs : List A) (i : ℕ) (x : A) → i < length xs → put_at xs i x ≡ edited_at xs i (λ _. x)
put_at_edited_to [] i x h = absurd (omega (arith, h))
put_at_edited_to (y ∷ ys) zero x h = refl
put_at_edited_to (y ∷ ys) (suc i) x h = ap (λ zs. y ∷ zs) (put_at_edited_to ys i x (omega (arith, h)))

-- to put a row of a number that is there is to change it to that row, whatever it was
pub put_edited_to : {A : Type 0} (xs : List A) (n : ℕ) (x : A) → n ≤ length xs → put xs n x ≡ edited xs n (λ _. x)
put_edited_to xs zero x h = refl
put_edited_to xs (suc n) x h = put_at_edited_to xs n x (omega (arith, h))

edited_at_id : {A : Type 0} (xs : List A) (i : ℕ) → edited_at xs i (λ x. x) ≡ xs
edited_at_id [] i = refl
edited_at_id (y ∷ ys) zero = refl
edited_at_id (y ∷ ys) (suc i) = ap (λ zs. y ∷ zs) (edited_at_id ys i)

edited_id : {A : Type 0} (xs : List A) (n : ℕ) → edited xs n (λ x. x) ≡ xs
edited_id xs zero = refl
edited_id xs (suc n) = edited_at_id xs n

-- to put the row that is there changes nothing
pub put_same : {A : Type 0} (xs : List A) (n : ℕ) (x : A) → numbered xs n ≡ Some x → put xs n x ≡ xs
put_same xs n x e = put-edited xs n (λ y. y) x e ∙ edited_id xs n

length-put_at : {A : Type 0} (xs : List A) (i : ℕ) (x : A) → i < length xs → length (put_at xs i x) ≡ length xs
length-put_at [] i x h = absurd (omega arith)
length-put_at (y ∷ ys) zero x h = refl
length-put_at (y ∷ ys) (suc i) x h = ap suc (length-put_at ys i x (omega arith))

-- a put of a number that is there keeps the length
pub length-put : {A : Type 0} (xs : List A) (n : ℕ) (x : A) → n ≤ length xs → length (put xs n x) ≡ length xs
length-put xs zero x h = refl
length-put xs (suc n) x h = length-put_at xs n x (omega arith)

-- a put of the next number makes the list one longer
pub length-put_next : {A : Type 0} (xs : List A) (n : ℕ) (x : A) → length xs < n → length (put xs n x) ≡ length xs + 1
length-put_next xs n x h = ap length (put_past xs n x h) ∙ length-append xs (x ∷ [])

put_at_read : {A : Type 0} (xs : List A) (i : ℕ) (x : A) → i ≤ length xs → slice_get (put_at xs i x) i ≡ Some x
put_at_read [] zero x h = refl
put_at_read [] (suc i) x h = absurd (omega arith)
put_at_read (y ∷ ys) zero x h = refl
put_at_read (y ∷ ys) (suc i) x h = put_at_read ys i x (omega arith)

-- what was put is what its number is
pub numbered-put : {A : Type 0} (xs : List A) (n : ℕ) (x : A) → 0 < n → n ≤ length xs + 1 → numbered (put xs n x) n ≡ Some x
numbered-put xs zero x low high = absurd (omega arith)
numbered-put xs (suc n) x low high = put_at_read xs n x (omega arith)
