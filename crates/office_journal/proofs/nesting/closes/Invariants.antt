use Rattle.office_journal.proofs.Nested.{AreScanned}
use Rattle.office_journal.proofs.nesting.closes.Given as goal

-- the rest of the bytes answers for all
abbrev pub invariant-loop-i : goal.invariant-loop-i
invariant-loop-i l = AreScanned l.bytes l.nesting l.i
