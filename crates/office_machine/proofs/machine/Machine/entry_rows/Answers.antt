use Rattle.office_machine.proofs.Places.{entries_there}
use Rattle.office_machine.proofs.machine.Machine.entry_rows.Goals as goal

pub entry_rows-requires : goal.entry_rows-requires
entry_rows-requires c = entries_there c.self.inside.parts c.self.invariant
