use Rattle.std.specs.List.{AllByRecursion}
use Rattle.office_records.specs.Forms.{IsCode}
use Rattle.office_holds.proofs.sets.well_formed_codes.Given as goal

abbrev pub invariant-loop-code : goal.invariant-loop-code
invariant-loop-code l = AllByRecursion IsCode l.code-iterator → AllByRecursion IsCode l.codes.keys
