use Rattle.std.proofs.Common.{◌≡◌, ◌++◌, map, take}
use Rattle.std.specs.String.{string_bytes}
use Rattle.office_rules.specs.Certificates.{lines_text, tabbed}
use Rattle.office_evidence.specs.Parsed.{spent_columns}
use Rattle.office_evidence.proofs.written.push_aggregations.Given as goal

-- the lines so far
abbrev pub invariant-loop-it : goal.invariant-loop-it
invariant-loop-it l = string_bytes l.text ≡ string_bytes l.initial.text ++ lines_text (map (λ it. tabbed (spent_columns it)) (take l.it-index l.spent))
