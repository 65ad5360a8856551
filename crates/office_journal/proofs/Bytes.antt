-- Tests that each byte of a text passes.
use Rattle.std.proofs.Common.{◌≡◌, ◌∙◌, ℕ, zero, suc, ◌/◌, ◌%◌, ◌<◌, ◌==◌, ◌&&◌, Bool, true, false, List, [], ◌∷◌, refl, ap, arith}
use Rattle.std.specs.Prelude.{slice_index}
use Rattle.std.specs.List.{AllByRecursion}
use Rattle.std.proofs.lemmas.Bool.{and_from, and_parts}
use Rattle.hex.specs.Hex.{encode_lower, encode_with, lower_digits}

abbrev pub all_pass : (ℕ → Bool) → List ℕ → Bool
all_pass p [] = true
all_pass p (b ∷ rest) = p b && all_pass p rest

abbrev pub all_below : (ℕ → Bool) → ℕ → Bool
all_below p zero = true
all_below p (suc n) = p n && all_below p n

below_by : (p : ℕ → Bool) (n i : ℕ) (e : Bool) → (i == n) ≡ e → i < suc n → p n ≡ true → (i < n → p i ≡ true) → p i ≡ true
below_by p n i true is l here later = ap p (equal i n is) ∙ here
  where
    equal : (x y : ℕ) → (x == y) ≡ true → x ≡ y
    equal x y h = grind arith
below_by p n i false is l here later = later (smaller i n is l)
  where
    smaller : (x y : ℕ) → (x == y) ≡ false → x < suc y → x < y
    smaller x y h k = grind arith

below : (p : ℕ → Bool) (n : ℕ) → all_below p n ≡ true → (i : ℕ) → i < n → p i ≡ true
below p zero h i l = absurd (omega (arith, l))
below p (suc n) h i l = let parts = and_parts (p n) (all_below p n) h in below_by p n i (i == n) refl l parts.0 (below p n parts.1 i)

-- ---- hexadecimal digits

abbrev pub digits_pass : (ℕ → Bool) → Bool
digits_pass p = all_below (λ i. p (slice_index lower_digits i)) 16

pub hex_pass : (p : ℕ → Bool) → digits_pass p ≡ true → (digest : List ℕ) → AllByRecursion (λ b. b < 256) digest → all_pass p (encode_lower digest) ≡ true
unfolding encode_with
hex_pass p each [] h = refl
hex_pass p each (b ∷ rest) h =
    let small : b < 256 = h.0 in
    let digit = below (λ i. p (slice_index lower_digits i)) 16 each in
    and_from _ _ (digit (b / 16) (omega (arith, small))) (and_from _ _ (digit (b % 16) (omega arith)) (hex_pass p each rest h.1))
