-- The content of a record as a text. Source: RFC 4648, section 4 (base64 with padding), taken only as encoding writes
-- it.
use Rattle.std.specs.Prelude.{ℕ, List, length, nat_le, Option, Some, None, Result, Ok, Err, if◌then◌else◌}
use Rattle.base64.specs.Engines.{standard}
use Rattle.base64.specs.GeneralPurpose.{decoded_of}
use Rattle.office_base.specs.declared.refusal.Refusal.{Refusal}
use Rattle.office_base.specs.declared.refusal.Refusal.TheVariants.{BadText, BadNumber}

-- a content has at most 262,144 bytes
abbrev pub content_of : Option (List ℕ) → Result (List ℕ) Refusal
content_of None = Err BadText
content_of (Some bytes) = if nat_le (length bytes) 262_144 then Ok bytes else Err BadNumber

-- the bytes that a text encodes, where it is an encoding
abbrev pub content_named : List ℕ → Option (List ℕ)
content_named text = decoded_of standard text
