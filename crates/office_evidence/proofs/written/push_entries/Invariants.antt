use Rattle.std.proofs.Common.{◌≡◌, ◌++◌, map, take}
use Rattle.std.specs.String.{string_bytes}
use Rattle.office_rules.specs.Certificates.{lines_text, tabbed}
use Rattle.office_evidence.specs.Parsed.{columns_of}
use Rattle.office_evidence.proofs.written.push_entries.Given as goal

-- the lines so far
abbrev pub invariant-loop-line : goal.invariant-loop-line
invariant-loop-line l = string_bytes l.text ≡ string_bytes l.initial.text ++ lines_text (map (λ line. tabbed (columns_of line)) (take l.line-index l.entries))
