use Rattle.std.proofs.Common.{take}
use Rattle.office_tree.specs.Indexes.{Indexes, aggregation_refs}
use Rattle.office_tree.proofs.MadeIndexes.{made}
use Rattle.office_tree.proofs.ref_index.index_of_aggregations.Given as goal

-- the refs so far, put in one after another, are an index
abbrev pub invariant-loop-i : goal.invariant-loop-i
invariant-loop-i l = Indexes (made l.refs.items) (aggregation_refs (take l.i l.aggregations))
