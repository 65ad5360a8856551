use Rattle.std.proofs.Common.{◌≡◌, drop}
use Rattle.office_journal.specs.Lines.{head_from, head_of}
use Rattle.office_journal.proofs.line.head_of.Given as goal

-- the lines that are left answer for all
abbrev pub invariant-loop-line : goal.invariant-loop-line
invariant-loop-line l = head_from l.head (drop l.line-index l.lines) ≡ head_of l.lines
