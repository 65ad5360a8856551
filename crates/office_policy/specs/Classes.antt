-- The classes to which a line of the settings limits rights. Source: docs/ACCESS.md, "The settings".
use Rattle.std.specs.Prelude.{ℕ, ◌-◌, ◌==◌, ◌&&◌, nat_lt, Bool, List, [], ◌∷◌, length, take, slice_index, codes, Option, Some, None, if◌then◌else◌}
use Rattle.std.specs.List.{flat_map}
use Rattle.std.specs.Option.{option_to_list}
use Rattle.std.specs.Str.{bytes_eq}
use Rattle.office_access.specs.declared.class_pattern.ClassPattern.{ClassPattern}
use Rattle.office_access.specs.declared.class_pattern.ClassPattern.TheVariants as pattern
use Rattle.office_records.specs.Codes.{code_named}
use Rattle.office_settings.specs.Looks.{text_in}

abbrev pub code_by : Option (List ℕ) → Option (List ℕ)
code_by None = None
code_by (Some text) = code_named text

-- bytes as a code
unfoldable pub code_in : List ℕ → Option (List ℕ)
code_in bytes = code_by (text_in bytes)

abbrev pub ends_with_star : List ℕ → Bool
ends_with_star token = nat_lt 0 (length token) && (slice_index token (length token - 1) == 42)

abbrev pub beginning : Option (List ℕ) → Option ClassPattern
beginning None = None
beginning (Some code) = Some (pattern.Beginning code)

abbrev pub exactly : Option (List ℕ) → Option ClassPattern
exactly None = None
exactly (Some code) = Some (pattern.Exactly code)

-- the classes that a word names: all; those that begin as the word does before its star; or the one of that code
unfoldable pub pattern_of : List ℕ → Option ClassPattern
pattern_of token =
    if bytes_eq token (codes "*") then Some pattern.Every
    else if ends_with_star token then beginning (code_in (take (length token - 1) token))
    else exactly (code_in token)

-- the classes that words name
abbrev pub patterns_of : List (List ℕ) → List ClassPattern
patterns_of classes = flat_map (λ token. option_to_list (pattern_of token)) classes

-- the limit that a line sets; without classes none
abbrev pub limit_of : List (List ℕ) → List (List ClassPattern)
limit_of [] = []
limit_of (first ∷ rest) = patterns_of (first ∷ rest) ∷ []
