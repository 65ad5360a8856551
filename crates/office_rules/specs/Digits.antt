-- A digest as it is written: in 64 lower-case hexadecimal digits. Source: own.
use Rattle.std.specs.Prelude.{◌≤◌, ◌⊎◌, ℕ, List, Option, Some, None, Result, Ok, Err, if◌then◌else◌}
use Rattle.std.specs.Str.{bytes_eq}
use Rattle.hex.specs.Hex.{decode_sized, encode_lower}
use Rattle.hex.specs.declared.error.FromHexError.{FromHexError}

-- a lower-case hexadecimal digit: 0 to 9 or a to f
abbrev pub IsLowerDigit : ℕ → Type 0
IsLowerDigit b = ((48 ≤ b) × (b ≤ 57)) ⊎ ((97 ≤ b) × (b ≤ 102))

-- the digest that was decoded of a text, where the text is what writes it
abbrev pub digest_written : Result (List ℕ) FromHexError → List ℕ → Option (List ℕ)
digest_written (Ok digest) text = if bytes_eq (encode_lower digest) text then Some digest else None
digest_written (Err e) text = None

-- the digest that a text writes, if it writes one
unfoldable pub digest_named : List ℕ → Option (List ℕ)
digest_named text = digest_written (decode_sized text 32) text
