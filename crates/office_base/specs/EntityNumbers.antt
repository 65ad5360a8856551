-- The numbers that the office gives to entities, as people write them. Source: own.
use Rattle.std.specs.Prelude.{ℕ, ◌&&◌, Bool, List, nat_le, Option, Some, None, Result, Ok, Err, if◌then◌else◌}
use Rattle.office_base.specs.declared.refusal.Refusal.{Refusal}
use Rattle.office_base.specs.declared.refusal.Refusal.TheVariants.{BadText, BadNumber}
use Rattle.office_base.specs.Numerals.{number_named}

-- an entity has a number from 1 to 4,294,967,295
abbrev pub is_entity_number : ℕ → Bool
is_entity_number n = nat_le 1 n && nat_le n 4_294_967_295

-- the number of an entity, where a text was read as a number
abbrev pub entity_numbered : Option ℕ → Result ℕ Refusal
entity_numbered None = Err BadText
entity_numbered (Some n) = if is_entity_number n then Ok n else Err BadNumber

-- the number of an entity that a text writes
abbrev pub entity_number : List ℕ → Result ℕ Refusal
entity_number text = entity_numbered (number_named text)
