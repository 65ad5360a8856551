use Rattle.std.specs.List.{All}
use Rattle.office_rules.specs.EntryForms.{IsWellFormedEntry}
use Rattle.office_machine.proofs.examination.runs.well_formed_entries.Given as goal

-- so it is of those so far
abbrev pub invariant-loop-entry : goal.invariant-loop-entry
invariant-loop-entry l = All (λ entry. IsWellFormedEntry entry.now) l.yielded
