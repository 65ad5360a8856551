-- What holds of each element, and of each number.
use Rattle.std.proofs.Common.{◌≡◌, ℕ, zero, suc, List, [], ◌∷◌, Some, refl, subst}
use Rattle.std.specs.Prelude.{slice_get}
use Rattle.std.specs.List.{All, AllByRecursion}
use Rattle.std.proofs.lemmas.List.Elements.{All-from_recursion, recursion_from_All}
use Rattle.office_records.specs.Lists.{numbered}

at_places : {A : Type 0} (P : A → Type 0) (xs : List A) → AllByRecursion P xs → (i : ℕ) (x : A) → slice_get xs i ≡ Some x → P x
at_places P [] all i x e = absurd cc
at_places P (y ∷ ys) all zero x e = let same : y ≡ x = cc in subst P same all.0
at_places P (y ∷ ys) all (suc i) x e = at_places P ys all.1 i x e

pub at_numbers : {A : Type 0} (P : A → Type 0) (xs : List A) → All P xs → (n : ℕ) (x : A) → numbered xs n ≡ Some x → P x
at_numbers P xs all zero x e = absurd cc
at_numbers P xs all (suc n) x e = at_places P xs (recursion_from_All P xs all) n x e

from_places : {A : Type 0} (P : A → Type 0) (xs : List A) → ((i : ℕ) (x : A) → slice_get xs i ≡ Some x → P x) → AllByRecursion P xs
from_places P [] h = tt
from_places P (y ∷ ys) h = (h 0 y refl, from_places P ys (λ i x e. h (suc i) x e))

pub from_numbers : {A : Type 0} (P : A → Type 0) (xs : List A) → ((n : ℕ) (x : A) → numbered xs n ≡ Some x → P x) → All P xs
from_numbers P xs h = All-from_recursion P xs (from_places P xs (λ i x e. h (suc i) x e))
