use Rattle.std.specs.List.{AllByRecursion}
use Rattle.office_records.specs.Forms.{IsCode}
use Rattle.office_rules.specs.HoldForms.{IsWellFormedHold}
use Rattle.office_holds.proofs.hold_soundness.well_formed_holds.Given as goal

abbrev pub invariant-loop-code : goal.invariant-loop-code
invariant-loop-code l = AllByRecursion (λ it. IsCode it.0 × IsWellFormedHold it.1) l.code-iterator → AllByRecursion (λ it. IsCode it.0 × IsWellFormedHold it.1) l.holds.entries
