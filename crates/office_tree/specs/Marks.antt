-- The candidates among the records as a set of numbers. Source: own.
use Rattle.std.specs.Prelude.{◌≡◌, ℕ, ◌≤◌, Bool, false, List, Option, Some, None, length, slice_get}
use Rattle.office_tree.specs.Flags.{flag_at}
use Rattle.office_tree.specs.declared.record_cache.RecordCache.{RecordCache}

-- what is cached of a record says whether it is a candidate; where nothing is cached there is none
abbrev pub mark_of : Option RecordCache → Bool
mark_of None = false
mark_of (Some it) = it.is_candidate

-- whether what is cached at the index is of a candidate
abbrev pub mark_at : List RecordCache → ℕ → Bool
mark_at rows k = mark_of (slice_get rows k)

-- the set has room for each record, and the candidates are in it and no others
pub record AreMarked (rows : List RecordCache) (flags : List Bool) : Type 0 where
  pub room : length rows ≤ length flags
  pub same : (k : ℕ) → flag_at flags k ≡ mark_at rows k
