-- What a change of one number leaves under the others, and under that number itself.
use Rattle.std.proofs.Common.{◌≡◌, ◌≢◌, ℕ, zero, suc, List, [], ◌∷◌, refl, ap, option_map}
use Rattle.std.specs.Prelude.{slice_get}
use Rattle.office_records.specs.Lists.{numbered, edited, edited_at}

slice_get-edited_other : {A : Type 0} (xs : List A) (i j : ℕ) (f : A → A) → i ≢ j → slice_get (edited_at xs i f) j ≡ slice_get xs j
slice_get-edited_other [] i j f h = refl
slice_get-edited_other (y ∷ ys) zero zero f h = absurd (h refl)
slice_get-edited_other (y ∷ ys) zero (suc j) f h = refl
slice_get-edited_other (y ∷ ys) (suc i) zero f h = refl
slice_get-edited_other (y ∷ ys) (suc i) (suc j) f h = slice_get-edited_other ys i j f (λ e. h (ap suc e))

pub numbered_other : {A : Type 0} (xs : List A) (c r : ℕ) (f : A → A) → c ≢ r → numbered (edited xs c f) r ≡ numbered xs r
numbered_other xs zero r f h = refl
numbered_other xs (suc c) zero f h = refl
numbered_other xs (suc c) (suc r) f h = slice_get-edited_other xs c r f (λ e. h (ap suc e))

slice_get-edited_same : {A : Type 0} (xs : List A) (i : ℕ) (f : A → A) → slice_get (edited_at xs i f) i ≡ option_map f (slice_get xs i)
slice_get-edited_same [] i f = refl
slice_get-edited_same (y ∷ ys) zero f = refl
slice_get-edited_same (y ∷ ys) (suc i) f = slice_get-edited_same ys i f

pub numbered_same : {A : Type 0} (xs : List A) (n : ℕ) (f : A → A) → numbered (edited xs n f) n ≡ option_map f (numbered xs n)
numbered_same xs zero f = refl
numbered_same xs (suc n) f = slice_get-edited_same xs n f
