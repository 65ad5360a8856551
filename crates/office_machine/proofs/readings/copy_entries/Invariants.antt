use Rattle.std.proofs.Common.{◌≡◌, ◌++◌}
use Rattle.std.specs.Map.{values_of}
use Rattle.office_machine.proofs.readings.copy_entries.Given as goal

-- those so far, and those that are left, are all
abbrev pub invariant-loop-entry : goal.invariant-loop-entry
invariant-loop-entry l = l.all.items ++ l.entry-iterator ≡ values_of l.entries.entries
