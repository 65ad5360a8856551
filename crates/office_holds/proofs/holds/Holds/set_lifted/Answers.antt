use Rattle.std.proofs.Common.{sym, subst}
use Rattle.std.specs.FinSet.{FinSet, from_list}
use Rattle.office_records.specs.Tree.{code_cmp}
use Rattle.office_rules.specs.HoldForms.{FitsHoldLimits}
use Rattle.office_holds.specs.HoldCounts.{AreCached}
use Rattle.office_rules.specs.Holds.{HoldMap}
use Rattle.office_holds.specs.contracts.holds.Holds.{the_view}
use Rattle.office_rules.specs.HoldEffects.{lifted_hold}
use Rattle.office_rules.proofs.HoldSoundness.{FitsHoldLimits-lifted_hold}
use Rattle.office_holds.proofs.Cached.{AreCached-lifted_hold}
use Rattle.office_holds.proofs.holds.Holds.set_lifted.Goals as goal

pub invariant_of-self : goal.invariant_of-self
invariant_of-self c =
    let holds = the_view c.self.inside in
    let k = c.args.code.now in
    let after = c.count_off.new.counts in
    let kept = AreCached-lifted_hold holds k c.args.day c.self.inside.counts after (from_list {R = code_cmp} c.self.inside.in_force.keys) c.self.invariant.1 c.count_off.ensures in
    subst (λ (h : HoldMap). FitsHoldLimits h × AreCached h after (from_list {R = code_cmp} c.take_code.new.codes.keys)) (sym c.lift_in.ensures)
    (FitsHoldLimits-lifted_hold holds c.self.invariant.0 c.args.day k, subst (λ (codes : FinSet code_cmp). AreCached (lifted_hold holds c.args.day k) after codes) (sym c.take_code.ensures) kept)
