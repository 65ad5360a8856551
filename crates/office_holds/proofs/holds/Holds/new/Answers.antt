use Rattle.std.specs.FinSet.{from_list}
use Rattle.office_records.specs.Tree.{code_cmp}
use Rattle.office_rules.proofs.HoldSoundness.{FitsHoldLimits-empty}
use Rattle.office_holds.proofs.Cached.{AreCached-empty}
use Rattle.office_holds.proofs.holds.Holds.new.Goals as goal

pub invariant_of-result : goal.invariant_of-result
invariant_of-result c = rw c.new.ensures.empty (FitsHoldLimits-empty, AreCached-empty c.new-2.result (from_list {R = code_cmp} c.new-3.result.keys) c.new-2.ensures)
