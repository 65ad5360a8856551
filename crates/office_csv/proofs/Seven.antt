-- A list of seven fields.
use Rattle.std.proofs.Common.{◌≡◌, refl, ℕ, List, [], ◌∷◌, length, arith}
use Rattle.std.specs.Option.{unwrap_or}
use Rattle.csv.specs.Records.{field_at}

abbrev at : List (List ℕ) → ℕ → List ℕ
at fields place = unwrap_or (field_at fields place) []

pub seven : (fields : List (List ℕ)) → length fields ≡ 7 → fields ≡ at fields 0 ∷ at fields 1 ∷ at fields 2 ∷ at fields 3 ∷ at fields 4 ∷ at fields 5 ∷ at fields 6 ∷ []
unfolding field_at
seven [] l = cc
seven (a ∷ []) l = cc
seven (a ∷ b ∷ []) l = cc
seven (a ∷ b ∷ c ∷ []) l = cc
seven (a ∷ b ∷ c ∷ d ∷ []) l = cc
seven (a ∷ b ∷ c ∷ d ∷ e ∷ []) l = cc
seven (a ∷ b ∷ c ∷ d ∷ e ∷ f ∷ []) l = cc
seven (a ∷ b ∷ c ∷ d ∷ e ∷ f ∷ g ∷ []) l = refl
seven (a ∷ b ∷ c ∷ d ∷ e ∷ f ∷ g ∷ h ∷ rest) l = absurd (omega (arith, l))
