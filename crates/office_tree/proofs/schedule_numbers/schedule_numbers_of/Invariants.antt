use Rattle.std.specs.List.{All}
use Rattle.office_tree.specs.ScheduleNumbers.{IsAmong}
use Rattle.office_tree.proofs.schedule_numbers.schedule_numbers_of.Given as goal

-- the codes so far have numbers
abbrev pub invariant-loop-code : goal.invariant-loop-code
invariant-loop-code l = All (λ code. IsAmong l.schedule_numbers code.now) l.yielded
