use Rattle.std.proofs.Common.{◌≡◌, ◌++◌, map}
use Rattle.office_machine.proofs.due_list.due_list.Given as goal

-- the numbers so far, and those that are left, are all
abbrev pub invariant-loop-record_no : goal.invariant-loop-record_no
invariant-loop-record_no l = l.list.items ++ map (λ pair. pair.1) l.record_no-iterator ≡ map (λ pair. pair.1) l.initial.record_no-iterator
