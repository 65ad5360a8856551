-- The field lines of a head that have a name. Source: RFC 9110 section 5: field names are the same in any case.
use Rattle.std.specs.Prelude.{ℕ, List, [], ◌∷◌, map, Bool, if◌then◌else◌, bytes_eq}
use Rattle.std.specs.Char.{to_ascii_lowercase}
use Rattle.httparse.specs.Spans.{span_bytes, IsWithin}
use Rattle.office_http.specs.declared.fields.Found.{Found}
use Rattle.office_http.specs.declared.fields.Found.TheVariants.{Missing, One, Many}

-- two names are the same in any case
unfoldable pub same_name : List ℕ → List ℕ → Bool
same_name a b = bytes_eq (map to_ascii_lowercase a) (map to_ascii_lowercase b)

-- the values that a head has for a name: none, one, or more than one
pub data Values : Type 0 where
  missing : Values
  one : List ℕ → Values
  many : Values

-- one value more
abbrev pub and_value : List ℕ → Values → Values
and_value v missing = one v
and_value v (one w) = many
and_value v many = many

-- the values for a name, among fields that are each a name, and a value without the white space around it
abbrev pub found_named : List ℕ → List (List ℕ × List ℕ) → Values
found_named name [] = missing
found_named name (f ∷ fs) = if same_name f.0 name then and_value f.1 (found_named name fs) else found_named name fs

-- the values that were found in a buffer
abbrev pub found_bytes : List ℕ → Found → Values
found_bytes buf Missing = missing
found_bytes buf (One s) = one (span_bytes buf s)
found_bytes buf Many = many

-- a value that was found lies in the first n bytes
abbrev pub IsFoundWithin : ℕ → Found → Type 0
IsFoundWithin n Missing = Unit {0}
IsFoundWithin n (One s) = IsWithin n s
IsFoundWithin n Many = Unit {0}
