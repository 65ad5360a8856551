-- The numbers of the settings. Source: docs/ACCESS.md, "The settings".
use Rattle.std.specs.Prelude.{ℕ, ◌+◌, ◌-◌, ◌*◌, ◌&&◌, nat_le, List, [], ◌∷◌, Option, Some, None, if◌then◌else◌}

-- the number that digits write behind those that write a first number
abbrev pub number_from : ℕ → List ℕ → Option ℕ
number_from n [] = Some n
number_from n (b ∷ rest) = if nat_le 48 b && nat_le b 57 then number_from (10 * n + (b - 48)) rest else None

-- the number that one or more digits write
abbrev pub number_in : List ℕ → Option ℕ
number_in [] = None
number_in (b ∷ rest) = number_from 0 (b ∷ rest)

abbrev pub bounded : ℕ → ℕ → Option ℕ → Option ℕ
bounded least most None = None
bounded least most (Some n) = if nat_le least n && nat_le n most then Some n else None

-- the number that a word writes, if it lies between these two
unfoldable pub number_between : ℕ → ℕ → List ℕ → Option ℕ
number_between least most token = bounded least most (number_in token)

-- the number that the words write, if they are one word
unfoldable pub only_number : ℕ → ℕ → List (List ℕ) → Option ℕ
only_number least most [] = None
only_number least most (token ∷ []) = number_between least most token
only_number least most (first ∷ second ∷ rest) = None
