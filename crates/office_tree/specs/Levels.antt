-- Words as flags, and flags under others that each represent 64 of them. Source: own.
use Rattle.std.specs.Prelude.{◌≡◌, ℕ, ◌*◌, ◌/◌, ◌%◌, ◌≤◌, Bool, true, List, length, map, ◌==◌, slice_index}
use Rattle.std.specs.List.{range_with_len}
use Rattle.std.specs.Int.{bit_at}
use Rattle.office_tree.specs.Flags.{flag_at}

-- bit n of the words, counted from the lowest bit of the first
abbrev pub bit_of : List ℕ → ℕ → Bool
bit_of words n = bit_at (slice_index words (n / 64)) (n % 64) == 1

-- all the bits of the words
unfoldable pub bits_of : List ℕ → List Bool
bits_of words = map (bit_of words) (range_with_len 0 (64 * length words))

-- a flag of the groups is set exactly where one of its 64 flags is
pub record HaveGroups (flags groups : List Bool) : Type 0 where
  pub room : length flags ≤ 64 * length groups
  pub up : (k : ℕ) → flag_at flags k ≡ true → flag_at groups (k / 64) ≡ true
  pub down : (g : ℕ) → flag_at groups g ≡ true → (k : ℕ) × (k / 64 ≡ g) × (flag_at flags k ≡ true)
