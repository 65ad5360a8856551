-- Tables by number as lists of rows in the order of the numbers. Source: own.
use Rattle.office_base.specs.declared.build.Rebuild.{Rebuild}
use Rattle.office_base.specs.declared.build.Rebuild.TheVariants.{Damaged}
use Rattle.std.specs.Prelude.{◌≡◌, Result, IfErr, ℕ, suc, List, [], ◌∷◌}

-- the things of a list under their numbers, from one on
abbrev pub numbered_from : {A : Type 0} → ℕ → List A → List (ℕ × A)
numbered_from n [] = []
numbered_from n (x ∷ xs) = (suc n, x) ∷ numbered_from (suc n) xs

-- the things of a list under their numbers, from 1 on
abbrev pub numbered_rows : {A : Type 0} → List A → List (ℕ × A)
numbered_rows xs = numbered_from 0 xs

-- what is known where the answer is Damaged
abbrev pub OnDamaged : {X : Type 0} → Result X Rebuild → Type 0 → Type 0
OnDamaged result P = IfErr result (λ e. e ≡ Damaged → P)
