use Rattle.office_machine.proofs.EndingEntries.{NoneEnded}
use Rattle.office_machine.proofs.parts.Parts.first_ending.Given as goal

-- none of the runs so far ended the record
abbrev pub invariant-loop-before : goal.invariant-loop-before
invariant-loop-before l = NoneEnded l.self l.record_no l.before
