-- Objects of JSON, by their members. Source: own.
use Rattle.std.specs.Prelude.{◌≡◌, ◌≤◌, ℕ, false, List, [], ◌∷◌}
use Rattle.serde_json.specs.Data.{Data, Members, depth, no_members, object, put}
use Rattle.serde_json.specs.Written.{has_float}

-- with these members, each under its name: `put` keeps them in the order of the names
abbrev pub with_members : List (List ℕ × Data) → Members → Members
with_members [] ms = ms
with_members (m ∷ rest) ms = with_members rest (put m.0 m.1 ms)

-- the object of these members
abbrev pub object_with : List (List ℕ × Data) → Data
object_with named = object (with_members named no_members)

-- ---- what an object has to be for its text to be read back

-- a value of at most two levels, without a float
abbrev pub IsFlat : Data → Type 0
IsFlat d = (has_float d ≡ false) × (depth d ≤ 2)
