-- The secret that an office shares with its proxy, in a file. Source: docs/ACCESS.md, "Set it up".
use Rattle.std.specs.Prelude.{ℕ, ◌-◌, ◌==◌, ◌&&◌, ◌||◌, Bool, List, length, nat_le, nat_lt, slice_index, take, Option, None, if◌then◌else◌}
use Rattle.std.specs.List.{list_all}
use Rattle.std.specs.Option.{option_and_then}
use Rattle.office_records.specs.TextForms.{text_named}
use Rattle.office_settings.specs.Looks.{text_in}

abbrev pub ends_with_feed : List ℕ → Bool
ends_with_feed bytes = nat_lt 0 (length bytes) && (slice_index bytes (length bytes - 1) == 10)

-- the one line of a file, without its line feed
abbrev pub only_line : List ℕ → List ℕ
only_line bytes = if ends_with_feed bytes then take (length bytes - 1) bytes else bytes

abbrev pub is_letter_or_digit : ℕ → Bool
is_letter_or_digit c =
    (nat_le 48 c && nat_le c 57) || ((nat_le 65 c && nat_le c 90) || (nat_le 97 c && nat_le c 122))

-- a secret has 32 letters and digits at least
abbrev pub is_secret : List ℕ → Bool
is_secret text = nat_le 32 (length text) && list_all is_letter_or_digit text

abbrev pub secret_of : List ℕ → Option (List ℕ)
secret_of line = if is_secret line then option_and_then text_named (text_in line) else None

-- the secret in the bytes of a file
unfoldable pub secret_in : List ℕ → Option (List ℕ)
secret_in bytes = secret_of (only_line bytes)
