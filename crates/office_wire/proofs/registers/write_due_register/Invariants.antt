use Rattle.std.proofs.Common.{Option, List, ℕ, length}
use Rattle.std.specs.Io.KnownBytes.{Appends}
use Rattle.office_base.specs.Output.{AppendsSome}
use Rattle.office_csv.specs.Registers.{due_lines}
use Rattle.office_wire.proofs.registers.write_due_register.Given as goal

-- what appends the lines of the rows that are left has appended them all, and some of them are some of all
abbrev pub invariant-loop-row : goal.invariant-loop-row
invariant-loop-row g l =
    (new : Option (List ℕ))
    → (Appends (g.W.Write.contents l.out) new (due_lines l.rows) → Appends (g.W.Write.contents l.initial.out) new (due_lines l.initial.rows))
    × (AppendsSome (g.W.Write.contents l.out) new (due_lines l.rows) → AppendsSome (g.W.Write.contents l.initial.out) new (due_lines l.initial.rows))

abbrev pub decreases-loop-row : goal.decreases-loop-row
decreases-loop-row g l = length l.rows
