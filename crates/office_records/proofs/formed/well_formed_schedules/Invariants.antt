use Rattle.std.proofs.Common.{ℕ, List}
use Rattle.std.specs.List.{All}
use Rattle.office_records.specs.Forms.{IsCode, IsWellFormedSchedule}
use Rattle.office_records.specs.declared.schedule.Schedule.{Schedule}
use Rattle.office_records.proofs.formed.well_formed_schedules.Given as goal

-- where those that are left are of their forms, all are
abbrev pub invariant-loop-code : goal.invariant-loop-code
invariant-loop-code l =
    All (λ (e : List ℕ × Schedule). IsCode e.0 × IsWellFormedSchedule e.1) l.code-iterator → All (λ (e : List ℕ × Schedule). IsCode e.0 × IsWellFormedSchedule e.1) l.schedules.entries
