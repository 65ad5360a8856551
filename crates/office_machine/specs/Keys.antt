-- Contents of which the keys alone matter. Source: own.
use Rattle.std.specs.Prelude.{[], ℕ, List, map}
use Rattle.std.specs.FinMap.{from_entries}
use Rattle.office_rules.specs.State.{ByteMap}

-- a row of no bytes for each key
abbrev pub bare_rows : List ℕ → List (ℕ × List ℕ)
bare_rows keys = map (λ k. (k, [])) keys

-- contents of these keys, each of no bytes
abbrev pub bare_contents : List ℕ → ByteMap
bare_contents keys = from_entries (bare_rows keys)
