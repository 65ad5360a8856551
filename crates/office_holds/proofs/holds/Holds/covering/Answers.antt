use Rattle.std.proofs.Common.{ap, sym, ◌∙◌, Some, filter, slice_get}
use Rattle.std.specs.FinMap.{get}
use Rattle.office_records.specs.Lists.{is_some_and}
use Rattle.office_records.specs.Tree.{above, class_of}
use Rattle.office_rules.specs.Holds.{hold_covers, least_covering}
use Rattle.office_holds.specs.contracts.holds.Holds.{the_view}
use Rattle.office_holds.proofs.Cached.{least_by_cached}
use Rattle.office_holds.proofs.holds.Holds.covering.Goals as goal

pub returns : goal.returns
returns c =
    let holds = the_view c.self.inside in
    let r = c.args.record_no in
    let codes = c.self.inside.in_force.keys in
    c.first_covering.ensures.value
    ∙ ap (λ numbers. slice_get (filter (λ code. is_some_and (get holds code) (λ hold. hold_covers hold r numbers (Some c.class_of.result.now))) codes) 0) (c.deref.ensures.0 ∙ c.above-above.ensures)
    ∙ ap (λ class. slice_get (filter (λ code. is_some_and (get holds code) (λ hold. hold_covers hold r (above c.args.tree.now r) class)) codes) 0) (sym c.class_of.ensures)
    ∙ least_by_cached holds c.self.inside.counts codes r (above c.args.tree.now r) (class_of c.args.tree.now r) c.self.invariant.1 c.first_covering.ensures.ordered
    ∙ ap (λ h. least_covering h c.args.tree.now r) c.self.view_is
