use Rattle.std.specs.FinMap.{from_entries, values}
use Rattle.std.specs.Ordering.{nat_cmp}
use Rattle.office_rules.specs.State.{entry_cmp}
use Rattle.office_machine.proofs.Endings.{AreNoted}
use Rattle.office_machine.proofs.examination.entries.endings.Given as goal

-- of the entries so far the runs are noted
abbrev pub invariant-loop-entry : goal.invariant-loop-entry
invariant-loop-entry l = AreNoted (from_entries {R = nat_cmp} l.ends.entries) l.entry-iterator (values (from_entries {R = entry_cmp} l.entries.entries))
