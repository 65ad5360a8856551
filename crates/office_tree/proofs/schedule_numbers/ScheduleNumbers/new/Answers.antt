use Rattle.office_tree.proofs.RefIndexes.{indexes_none}
use Rattle.office_tree.proofs.schedule_numbers.ScheduleNumbers.new.Goals as goal

pub invariant_of-result : goal.invariant_of-result
invariant_of-result c = rw (c.new.ensures.items, c.new-2.ensures.empty) indexes_none
