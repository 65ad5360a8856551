-- Sets of numbers as flags, one for each number from 0 on. Source: own.
use Rattle.std.specs.Prelude.{◌≡◌, ℕ, ◌-◌, ◌<◌, ◌≤◌, Bool, true, false, List, slice_index_or}

-- whether the flag at the index is set; past the end none is
abbrev pub flag_at : List Bool → ℕ → Bool
flag_at flags k = slice_index_or flags k false

-- no flag is set from the one index up to the other
abbrev pub HasNoneUpTo : List Bool → ℕ → ℕ → Type 0
HasNoneUpTo flags from end = (k : ℕ) → from ≤ k → k < end → flag_at flags k ≡ false

-- no flag is set from the index on
abbrev pub HasNoneFrom : List Bool → ℕ → Type 0
HasNoneFrom flags from = (k : ℕ) → from ≤ k → flag_at flags k ≡ false

-- the first flag that is set from the index on
pub record IsFirstFrom (flags : List Bool) (from j : ℕ) : Type 0 where
  pub at : from ≤ j
  pub set : flag_at flags j ≡ true
  pub before : (k : ℕ) → from ≤ k → k < j → flag_at flags k ≡ false

-- whether the number, from 1 on, is in the set
abbrev pub is_member : List Bool → ℕ → Bool
is_member flags n = flag_at flags (n - 1)

-- the least member above the number
pub record IsNextAbove (flags : List Bool) (n next : ℕ) : Type 0 where
  pub above : n < next
  pub member : is_member flags next ≡ true
  pub between : (k : ℕ) → n < k → k < next → is_member flags k ≡ false

-- no member is above the number
abbrev pub HasNoneAbove : List Bool → ℕ → Type 0
HasNoneAbove flags n = (k : ℕ) → n < k → is_member flags k ≡ false
