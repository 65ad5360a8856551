use Rattle.std.proofs.Common.{◌≡◌, ◌++◌, List, codes, drop, filter, map}
use Rattle.std.specs.Prelude.{nat_eq}
use Rattle.std.specs.List.{All, starts_with}
use Rattle.office_rules.specs.Certificates.{tabbed}
use Rattle.office_evidence.specs.Parsed.{IsWellFormedSpent, spent_columns}
use Rattle.office_evidence.specs.declared.parsed.SpentLine.{SpentLine}
use Rattle.office_evidence.proofs.lines.spent_in.Given as goal

-- of the aggregations whose lines are there, those that are left have the lines that are left; what is read is of its form
abbrev pub invariant-loop-line : goal.invariant-loop-line
invariant-loop-line l =
    All IsWellFormedSpent l.spent.items
    × ((them : List SpentLine) → All IsWellFormedSpent them
    → filter (λ line. starts_with nat_eq line (codes "AGGREGATION")) (map (λ line. line.now) l.lines) ≡ map (λ it. tabbed (spent_columns it)) them
    → (rest : List SpentLine) × (them ≡ l.spent.items ++ rest)
    × (filter (λ line. starts_with nat_eq line (codes "AGGREGATION")) (map (λ line. line.now) (drop l.line-index l.lines)) ≡ map (λ it. tabbed (spent_columns it)) rest))
