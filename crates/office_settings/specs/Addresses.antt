-- The address of a site, and the name of a time zone. Source: docs/ACCESS.md, "The settings".
use Rattle.std.specs.Prelude.{ℕ, ◌==◌, ◌&&◌, ◌||◌, nat_eq, nat_le, nat_lt, Bool, List, drop, length, codes}
use Rattle.std.specs.Char.{is_ascii_alphanumeric, is_ascii_digit}
use Rattle.std.specs.List.{list_all, starts_with}

-- a byte of a host with its port: a letter, a digit, or . [ ] : -
unfoldable pub is_host_byte : ℕ → Bool
is_host_byte b = is_ascii_alphanumeric b || (b == 46) || (b == 91) || (b == 93) || (b == 58) || (b == 45)

unfoldable pub is_host : List ℕ → Bool
is_host text = nat_lt 0 (length text) && list_all is_host_byte text

unfoldable pub are_digits : List ℕ → Bool
are_digits text = nat_lt 0 (length text) && list_all is_ascii_digit text

-- nothing, or a colon and digits
unfoldable pub is_port : List ℕ → Bool
is_port text = (length text == 0) || (starts_with nat_eq text (codes ":") && are_digits (drop 1 text))

-- a host of that name, with a port or without
unfoldable pub is_machine : List ℕ → List ℕ → Bool
is_machine text name = starts_with nat_eq text name && is_port (drop (length name) text)

-- this machine
unfoldable pub is_this_machine : List ℕ → Bool
is_this_machine text =
    is_machine text (codes "localhost") || is_machine text (codes "127.0.0.1") || is_machine text (codes "[::1]")

-- an address without a path; http is for this machine alone
unfoldable pub is_site : List ℕ → Bool
is_site token =
    (starts_with nat_eq token (codes "https://") && is_host (drop 8 token))
    || (starts_with nat_eq token (codes "http://") && is_this_machine (drop 7 token))

-- a byte of the name of a time zone: a letter, a digit, or / _ + -
unfoldable pub is_zone_byte : ℕ → Bool
is_zone_byte b = is_ascii_alphanumeric b || (b == 47) || (b == 95) || (b == 43) || (b == 45)

unfoldable pub is_zone : List ℕ → Bool
is_zone token = (nat_lt 0 (length token) && nat_le (length token) 64) && list_all is_zone_byte token
