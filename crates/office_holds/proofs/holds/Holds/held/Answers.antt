use Rattle.std.proofs.Common.{ap, sym, ◌∙◌, Some}
use Rattle.std.specs.FinSet.{from_list}
use Rattle.office_records.specs.Tree.{above, code_cmp}
use Rattle.office_rules.specs.Holds.{held_in, is_held}
use Rattle.office_holds.specs.contracts.holds.Holds.{the_view}
use Rattle.office_holds.proofs.Cached.{held_by_cached}
use Rattle.office_holds.proofs.holds.Holds.held.Goals as goal

pub returns : goal.returns
returns c =
    let holds = the_view c.self.inside in
    let r = c.args.record_no in
    c.bind.ensures
    ∙ held_by_cached holds c.self.inside.counts (from_list {R = code_cmp} c.self.inside.in_force.keys) r c.deref.result.now c.class_of.result.now c.self.invariant.1
    ∙ ap (λ numbers. held_in holds r numbers (Some c.class_of.result.now)) (c.deref.ensures.0 ∙ c.above-above.ensures)
    ∙ ap (λ class. held_in holds r (above c.args.tree.now r) class) (sym c.class_of.ensures)
    ∙ ap (λ h. is_held h c.args.tree.now r) c.self.view_is
