use Rattle.std.proofs.Common.{◌≡◌, map, take}
use Rattle.office_rules.specs.Tables.{with_rows}
use Rattle.office_rules.proofs.row_source.give_all.Given as goal

-- the rows so far have come
abbrev pub invariant-loop-row : goal.invariant-loop-row
invariant-loop-row g l = g.I.Intake.content l.intake ≡ with_rows (g.I.Intake.content l.fn.intake) (map g.T.Kept.row_of (take l.row-index l.rows))
