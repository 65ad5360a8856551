-- The row write of the office's day. Source: own.
use Rattle.std.specs.Prelude.{ℤ, List, [], ◌∷◌, if◌then◌else◌}
use Rattle.std.specs.Ordering.{int_eq}
use Rattle.office_rules.specs.State.{Office}
use Rattle.office_rules.specs.declared.rows.RowWrite.{RowWrite}
use Rattle.office_rules.specs.declared.rows.RowWrite.TheVariants as row_write

-- the day of an act is written where it is another than the office's
abbrev pub day_writes : Office → ℤ → List RowWrite
day_writes s day = if int_eq day s.day then [] else row_write.Day day ∷ []
