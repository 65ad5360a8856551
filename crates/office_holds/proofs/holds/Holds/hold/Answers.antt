use Rattle.std.proofs.Common.{◌∙◌, ap, sym}
use Rattle.std.specs.FinMap.{get}
use Rattle.office_records.proofs.Plan.{get_is}
use Rattle.office_holds.proofs.holds.Holds.hold.Goals as goal

pub returns : goal.returns
returns c = c.get.ensures.value ∙ sym (get_is c.self.inside.by_code.entries c.args.code.now) ∙ ap (λ t. get t c.args.code.now) c.self.view_is
