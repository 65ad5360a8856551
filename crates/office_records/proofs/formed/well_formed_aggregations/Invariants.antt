use Rattle.std.proofs.Common.{take}
use Rattle.std.specs.List.{All}
use Rattle.office_records.specs.Forms.{IsWellFormedAggregation}
use Rattle.office_records.proofs.formed.well_formed_aggregations.Given as goal

-- those so far are of their forms
abbrev pub invariant-loop-it : goal.invariant-loop-it
invariant-loop-it l = All IsWellFormedAggregation (take l.it-index l.aggregations)
