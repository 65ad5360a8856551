use Rattle.std.proofs.Common.{◌≡◌, true}
use Rattle.std.specs.FinMap.{values}
use Rattle.office_rules.specs.Loading.{is_entry_right}
use Rattle.office_records.proofs.Passing.{HavePassed}
use Rattle.office_machine.proofs.parts.Parts.are_entries_right.Given as goal

-- the entries so far fit
abbrev pub invariant-loop-entry : goal.invariant-loop-entry
invariant-loop-entry l = HavePassed (λ e. is_entry_right l.self e ≡ true) l.entry-iterator (values l.self.entries)
