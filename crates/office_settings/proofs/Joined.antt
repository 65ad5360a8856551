-- Words that spaces join.
use Rattle.std.proofs.Common.{◌≡◌, ℕ, List, [], ◌∷◌, ◌++◌, map, sym, ap, append-nil}
use Rattle.std.specs.List.{flat_map, join_with_byte}

-- each word but the first has a space before it
pub joined_at : {X : Type 0} (f : X → List ℕ) (first : List ℕ) (xs : List X) → join_with_byte 32 (first ∷ map f xs) ≡ first ++ flat_map (λ w. 32 ∷ f w) xs
joined_at f first [] = sym (append-nil first)
joined_at f first (y ∷ ys) = ap (λ t. first ++ (32 ∷ t)) (joined_at f (f y) ys)
