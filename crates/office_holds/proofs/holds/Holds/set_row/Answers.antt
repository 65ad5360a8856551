use Rattle.std.proofs.Common.{Some, ap, sym, subst, ◌∙◌}
use Rattle.std.specs.FinMap.{get}
use Rattle.std.specs.FinSet.{from_list}
use Rattle.office_records.specs.Tree.{code_cmp}
use Rattle.office_rules.specs.HoldForms.{FitsHoldLimits}
use Rattle.office_holds.specs.HoldCounts.{AreCached}
use Rattle.office_rules.specs.Holds.{HoldMap}
use Rattle.office_holds.specs.contracts.holds.Holds.{the_view}
use Rattle.office_rules.specs.HoldRows.{hold_from}
use Rattle.office_rules.proofs.HoldSoundness.{amended_fits}
use Rattle.office_holds.proofs.Cached.{AreCached-set_row}
use Rattle.office_holds.proofs.holds.Holds.set_row.Goals as goal

pub invariant_of-self : goal.invariant_of-self
invariant_of-self c =
    let holds = the_view c.self.inside in
    let k = c.args.code.now in
    let counts = c.self.inside.counts in
    let codes = from_list {R = code_cmp} c.self.inside.in_force.keys in
    subst (λ (h : HoldMap). FitsHoldLimits h × AreCached h counts codes) (sym c.set_row_in.ensures) (
      amended_fits holds c.self.invariant.0 k (λ hold. hold_from c.args.row (Some hold)) (λ hold is. c.self.invariant.0.targets_few k hold is),
      AreCached-set_row holds k c.args.row counts codes (λ hold is. c.requires hold (sym (ap (λ h. get h k) c.self.view_is) ∙ is)) c.self.invariant.1,
    )
