use Rattle.office_gate.specs.InForce.{IsInForceSince}
use Rattle.office_gate.proofs.ByDeeds.{came_by_deeds}
use Rattle.office_gate.proofs.laws.law_of_gated_offices.Goals as goal

pub returns : goal.returns
returns c = λ first. came_by_deeds (IsInForceSince first)
