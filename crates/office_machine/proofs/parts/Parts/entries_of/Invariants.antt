use Rattle.std.proofs.Common.{◌≡◌, ◌++◌, map}
use Rattle.std.specs.Map.{values_of}
use Rattle.office_rules.specs.Runs.{entries_of}
use Rattle.office_machine.proofs.parts.Parts.entries_of.Given as goal

-- those so far, and those that are left, are all of the run
abbrev pub invariant-loop-entry : goal.invariant-loop-entry
invariant-loop-entry l = map (λ entry. entry.now) l.these.items ++ values_of l.entry-iterator ≡ entries_of l.self l.run
