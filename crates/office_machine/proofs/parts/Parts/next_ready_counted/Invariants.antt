use Rattle.std.proofs.Common.{◌≡◌, ◌+◌, ◌-◌, ◌≤◌, length}
use Rattle.office_machine.proofs.LookedAt.{looked_after}
use Rattle.office_machine.proofs.NextReady.{ready_after}
use Rattle.office_machine.proofs.parts.Parts.next_ready_counted.Given as goal

-- none of the candidates so far is ready, and they are counted
abbrev pub invariant-loop-record_no : goal.invariant-loop-record_no
invariant-loop-record_no l = record {
  next : ready_after l.self l.it.day l.it.cursor ≡ ready_after l.self l.it.day l.above;
  looked : looked_after l.self l.it.day l.it.cursor ≡ l.count + looked_after l.self l.it.day l.above;
  few : l.count ≤ l.above;
}

abbrev pub decreases-loop-record_no : goal.decreases-loop-record_no
decreases-loop-record_no l = length l.self.tree.records - l.above
