use Rattle.std.proofs.Common.{take}
use Rattle.std.specs.List.{All}
use Rattle.office_records.specs.Forms.{IsWellFormedRecord}
use Rattle.office_records.proofs.formed.well_formed_records.Given as goal

-- those so far are of their forms
abbrev pub invariant-loop-head : goal.invariant-loop-head
invariant-loop-head l = All IsWellFormedRecord (take l.head-index l.records)
