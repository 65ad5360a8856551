-- The first of some days in a row that passes a test. Source: own.
use Rattle.std.specs.Prelude.{ℕ, zero, suc, Bool, Option, Some, None, if◌then◌else◌, ℤ, pos, ◌+ℤ◌}

-- of the n days from a day on, the first that passes the test
unfoldable pub first_passing : (ℤ → Bool) → ℕ → ℤ → Option ℤ
first_passing test zero day = None
first_passing test (suc n) day = if test day then Some day else first_passing test n (day +ℤ pos 1)
