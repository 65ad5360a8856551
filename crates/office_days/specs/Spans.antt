-- A period as `jiff` adds it: months first, then days.
use Rattle.std.specs.Prelude.{ℕ, ◌*◌}
use Rattle.office_days.specs.declared.unit.Unit.{Unit}
use Rattle.office_days.specs.declared.unit.Unit.TheVariants.{Days, Weeks, Months, Years}

-- the months of so many units
abbrev pub months_in : Unit → ℕ → ℕ
months_in Days n = 0
months_in Weeks n = 0
months_in Months n = n
months_in Years n = 12 * n

-- and the days
abbrev pub days_in : Unit → ℕ → ℕ
days_in Days n = n
days_in Weeks n = 7 * n
days_in Months n = 0
days_in Years n = 0
