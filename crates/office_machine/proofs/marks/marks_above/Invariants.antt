use Rattle.std.proofs.Common.{map, take}
use Rattle.office_machine.specs.Marks.{AreMarks}
use Rattle.office_machine.proofs.marks.marks_above.Given as goal

-- marked are those of the entries so far
abbrev pub invariant-loop-entry : goal.invariant-loop-entry
invariant-loop-entry l = AreMarks l.tree (map (λ entry. entry.now) (take l.entry-index l.entries)) l.marks.items
