use Rattle.std.proofs.Common.{◌∙◌, ap, sym}
use Rattle.std.specs.FinMap.{get}
use Rattle.office_tree.proofs.EventPlaces.{event_is}
use Rattle.office_tree.proofs.tree.Tree.event.Goals as goal

pub returns : goal.returns
returns c = c.get.ensures.value ∙ sym (event_is c.self.inside.events.entries c.args.record_no) ∙ ap (λ t. get t.events c.args.record_no) c.self.view_is
