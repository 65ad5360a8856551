-- The numbers of a service: the TCP port, and how many connections are served. Source: RFC 9293, section 3.1 (ports
-- have 16 bits), and RFC 6335, section 6 (port 0 is reserved); the count and the reading are own.
use Rattle.std.specs.Prelude.{ℕ, ◌&&◌, Bool, List, nat_le, Option, Some, None, Result, Ok, Err, if◌then◌else◌}
use Rattle.office_base.specs.declared.refusal.Refusal.{Refusal}
use Rattle.office_base.specs.declared.refusal.Refusal.TheVariants.{BadText, BadNumber}
use Rattle.office_base.specs.Numerals.{number_named}

abbrev pub is_port : ℕ → Bool
is_port n = nat_le 1 n && nat_le n 65_535

abbrev pub is_connection_count : ℕ → Bool
is_connection_count n = nat_le 1 n && nat_le n 1_000_000

-- both numbers, or the refusal: what is no number is reported before what is out of its range
abbrev pub service_numbered : Option ℕ → Option ℕ → Result (ℕ × ℕ) Refusal
service_numbered (Some port) (Some count) =
    if is_port port && is_connection_count count then Ok (port, count) else Err BadNumber
service_numbered (Some port) None = Err BadText
service_numbered None count = Err BadText

-- the port and the count that two texts write
unfoldable pub service_numbers : List ℕ → List ℕ → Result (ℕ × ℕ) Refusal
service_numbers port count = service_numbered (number_named port) (number_named count)
