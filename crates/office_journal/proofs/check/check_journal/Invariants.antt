use Rattle.std.proofs.Common.{◌+◌}
use Rattle.office_journal.proofs.Split.{AreChecked}
use Rattle.office_journal.proofs.check.check_journal.Given as goal

-- the lines before the rest are checked
abbrev pub invariant-lines : goal.invariant-lines
invariant-lines l = AreChecked l.fn.start l.text l.head (l.before + 1) l.rest
