use Rattle.std.proofs.Common.{sym}
use Rattle.office_records.specs.Forms.{IsCode}
use Rattle.office_rules.specs.HoldForms.{IsWellFormedHold}
use Rattle.office_holds.proofs.Representing.{at_entries}
use Rattle.office_holds.proofs.holds.Holds.formed.Goals as goal

pub returns : goal.returns
returns c = rw (sym c.self.view_is) (at_entries (λ code hold. IsCode code × IsWellFormedHold hold) c.self.inside.by_code.entries c.well_formed_holds.ensures)
