-- The words of a line of the settings. Source: docs/ACCESS.md, "The settings".
use Rattle.std.specs.Prelude.{ℕ, ◌==◌, ◌||◌, Bool, List, [], ◌∷◌, ◌++◌, if◌then◌else◌}
use Rattle.std.specs.List.{before_first}

-- a space, a tab or a carriage return parts two words
unfoldable pub is_blank : ℕ → Bool
is_blank b = (b == 32) || (b == 9) || (b == 13)

-- a word that has a byte comes before the others
abbrev pub closed : List ℕ → List (List ℕ) → List (List ℕ)
closed [] others = others
closed (b ∷ token) others = (b ∷ token) ∷ others

-- the words of a text, the first of which has begun with these bytes
abbrev pub tokens_from : List ℕ → List ℕ → List (List ℕ)
tokens_from token [] = closed token []
tokens_from token (b ∷ rest) =
    if is_blank b then closed token (tokens_from [] rest) else tokens_from (token ++ b ∷ []) rest

-- the words of a line: what follows # is a remark
abbrev pub tokens_in : List ℕ → List (List ℕ)
tokens_in line = tokens_from [] (before_first (λ b. b == 35) line)
