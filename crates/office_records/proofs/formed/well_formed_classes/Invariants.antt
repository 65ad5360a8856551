use Rattle.std.proofs.Common.{ℕ, List}
use Rattle.std.specs.List.{All}
use Rattle.office_records.specs.Forms.{IsCode, IsWellFormedClass}
use Rattle.office_records.specs.declared.class.Class.{Class}
use Rattle.office_records.proofs.formed.well_formed_classes.Given as goal

-- where those that are left are of their forms, all are
abbrev pub invariant-loop-code : goal.invariant-loop-code
invariant-loop-code l =
    All (λ (e : List ℕ × Class). IsCode e.0 × IsWellFormedClass e.1) l.code-iterator → All (λ (e : List ℕ × Class). IsCode e.0 × IsWellFormedClass e.1) l.classes.entries
