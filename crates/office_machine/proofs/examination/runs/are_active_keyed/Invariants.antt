use Rattle.office_machine.proofs.ActiveKeys.{HaveGoneBy}
use Rattle.office_machine.proofs.examination.runs.are_active_keyed.Given as goal

-- the records so far and their keys have gone by
abbrev pub invariant-loop-before : goal.invariant-loop-before
invariant-loop-before l = HaveGoneBy l.tree.statuses l.keys l.before l.at
