use Rattle.std.proofs.Common.{take}
use Rattle.office_tree.specs.Summaries.{AreSummaries}
use Rattle.office_tree.proofs.SummariesNoted.{rows}
use Rattle.office_tree.proofs.summary.note_additions.Given as goal

-- what is cached is right with the records so far
abbrev pub invariant-loop-i : goal.invariant-loop-i
invariant-loop-i l = AreSummaries (rows l.aggregations (take l.i l.records) (take l.i l.statuses)) l.summaries
