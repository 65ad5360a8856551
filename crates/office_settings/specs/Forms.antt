-- The forms of the words in the settings. Source: docs/ACCESS.md, "The settings".
use Rattle.std.specs.Prelude.{ℕ, ◌==◌, ◌&&◌, ◌||◌, ◌-◌, nat_le, nat_lt, Bool, List, length, take, slice_index, codes}
use Rattle.std.specs.Char.{is_ascii_alphanumeric}
use Rattle.std.specs.List.{list_all}
use Rattle.std.specs.Str.{bytes_eq}

-- a name has 1 to 64 letters, digits and . _ @ -
unfoldable pub is_name_byte : ℕ → Bool
is_name_byte b = is_ascii_alphanumeric b || (b == 46) || (b == 95) || (b == 64) || (b == 45)

unfoldable pub is_name : List ℕ → Bool
is_name token = (nat_lt 0 (length token) && nat_le (length token) 64) && list_all is_name_byte token

-- a role has 1 to 32 small letters, digits and hyphens
unfoldable pub is_role_byte : ℕ → Bool
is_role_byte b = (nat_le 97 b && nat_le b 122) || (nat_le 48 b && nat_le b 57) || (b == 45)

unfoldable pub is_role : List ℕ → Bool
is_role token = (nat_lt 0 (length token) && nat_le (length token) 32) && list_all is_role_byte token

-- a class is a star, or 1 to 16 letters, digits and hyphens, with a star at its end or not
unfoldable pub is_class_byte : ℕ → Bool
is_class_byte b = is_ascii_alphanumeric b || (b == 45)

unfoldable pub is_code : List ℕ → Bool
is_code token = (nat_lt 0 (length token) && nat_le (length token) 16) && list_all is_class_byte token

-- a code with a star behind it
unfoldable pub is_beginning : List ℕ → Bool
is_beginning token =
    nat_lt 0 (length token)
    && ((slice_index token (length token - 1) == 42) && is_code (take (length token - 1) token))

unfoldable pub is_class : List ℕ → Bool
is_class token = bytes_eq token (codes "*") || is_code token || is_beginning token
