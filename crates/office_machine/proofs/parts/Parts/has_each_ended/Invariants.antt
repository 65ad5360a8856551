use Rattle.std.specs.FinMap.{from_entries}
use Rattle.std.specs.Ordering.{nat_cmp}
use Rattle.office_machine.proofs.Endings.{HaveEndings}
use Rattle.office_machine.proofs.parts.Parts.has_each_ended.Given as goal

-- each ended record so far has a run under it
abbrev pub invariant-loop-before : goal.invariant-loop-before
invariant-loop-before l = HaveEndings l.self.tree.statuses (from_entries {R = nat_cmp} l.ends.entries) l.before
