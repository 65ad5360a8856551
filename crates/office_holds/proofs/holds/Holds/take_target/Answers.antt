use Rattle.std.proofs.Common.{ap, sym, subst, ◌∙◌}
use Rattle.std.specs.FinSet.{from_list}
use Rattle.office_records.specs.Tree.{code_cmp}
use Rattle.office_rules.specs.HoldForms.{FitsHoldLimits}
use Rattle.office_holds.specs.HoldCounts.{AreCached}
use Rattle.office_rules.specs.Holds.{HoldMap}
use Rattle.office_holds.specs.contracts.holds.Holds.{the_view}
use Rattle.office_holds.specs.HoldCounts.{binds_at}
use Rattle.office_rules.proofs.HoldSoundness.{FitsHoldLimits-held_off}
use Rattle.office_holds.proofs.Cached.{AreCached-held_off}
use Rattle.office_holds.proofs.holds.Holds.take_target.Goals as goal

pub invariant_of-self : goal.invariant_of-self
invariant_of-self c =
    let holds = the_view c.self.inside in
    let k = c.args.code.now in
    let counts = c.self.inside.counts in
    let codes = from_list {R = code_cmp} c.self.inside.in_force.keys in
    let none = ap (λ (h : HoldMap). binds_at h k c.args.target.now) c.self.view_is ∙ sym c.binds.ensures ∙ c.if-binds.false in
    subst (λ (h : HoldMap). FitsHoldLimits h × AreCached h counts codes) (sym c.take_target_in.ensures)
    (FitsHoldLimits-held_off holds c.self.invariant.0 k c.args.target.now, AreCached-held_off holds k c.args.target.now counts codes c.self.invariant.1 none)
