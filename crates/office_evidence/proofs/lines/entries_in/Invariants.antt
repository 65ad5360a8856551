use Rattle.std.proofs.Common.{◌≡◌, ◌++◌, List, codes, drop, filter, map}
use Rattle.std.specs.Prelude.{nat_eq}
use Rattle.std.specs.List.{All, starts_with}
use Rattle.office_rules.specs.Certificates.{tabbed}
use Rattle.office_evidence.specs.Parsed.{IsWellFormedLine, columns_of}
use Rattle.office_evidence.specs.declared.parsed.EntryLine.{EntryLine}
use Rattle.office_evidence.proofs.lines.entries_in.Given as goal

-- of the entries whose lines are there, those that are left have the lines that are left; what is read is of its form
abbrev pub invariant-loop-line : goal.invariant-loop-line
invariant-loop-line l =
    All IsWellFormedLine l.entries.items
    × ((them : List EntryLine) → All IsWellFormedLine them
    → filter (λ line. starts_with nat_eq line (codes "ENTRY")) (map (λ line. line.now) l.lines) ≡ map (λ it. tabbed (columns_of it)) them
    → (rest : List EntryLine) × (them ≡ l.entries.items ++ rest)
    × (filter (λ line. starts_with nat_eq line (codes "ENTRY")) (map (λ line. line.now) (drop l.line-index l.lines)) ≡ map (λ it. tabbed (columns_of it)) rest))
