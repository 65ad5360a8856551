use Rattle.std.proofs.Common.{◌<◌, ◌^◌}
use Rattle.std.specs.List.{All}
use Rattle.office_machine.proofs.examination.runs.well_formed_numbers.Given as goal

-- so it is of those so far
abbrev pub invariant-loop-run : goal.invariant-loop-run
invariant-loop-run l = All (λ run. run.now < 2 ^ 32) l.yielded
