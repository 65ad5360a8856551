use Rattle.std.proofs.Common.{sym, subst}
use Rattle.office_rules.specs.Sound.{IsSoundOffice}
use Rattle.office_rules.proofs.Feasible.{empty_sound}
use Rattle.office_machine.proofs.machine.Machine.new.Goals as goal

pub invariant_of-result : goal.invariant_of-result
invariant_of-result c = subst IsSoundOffice (sym c.new.ensures) empty_sound
