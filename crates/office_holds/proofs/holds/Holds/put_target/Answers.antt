use Rattle.std.proofs.Common.{ℕ, List, ap, sym, subst, ◌∙◌}
use Rattle.std.specs.FinMap.{from_entries}
use Rattle.std.specs.FinSet.{from_list}
use Rattle.office_records.specs.Tree.{code_cmp}
use Rattle.office_rules.specs.HoldForms.{FitsHoldLimits}
use Rattle.office_holds.specs.HoldCounts.{AreCached}
use Rattle.office_rules.specs.Holds.{HoldMap, HoldState}
use Rattle.office_holds.specs.contracts.holds.Holds.{the_view}
use Rattle.office_rules.specs.HoldEffects.{held_on}
use Rattle.office_holds.specs.HoldCounts.{may_gain}
use Rattle.office_holds.proofs.Keys.{either_way}
use Rattle.office_holds.proofs.Cached.{AreCached-held_on}
use Rattle.office_holds.proofs.holds.Holds.put_target.Goals as goal

pub invariant_of-self : goal.invariant_of-self
invariant_of-self c =
    let holds = the_view c.self.inside in
    let k = c.args.code.now in
    let counts = c.self.inside.counts in
    let codes = from_list {R = code_cmp} c.self.inside.in_force.keys in
    let none = ap (λ (h : HoldMap). may_gain h k c.args.target) c.self.view_is ∙ sym c.may_gain.ensures ∙ c.if-may_gain.false in
    let fits = subst FitsHoldLimits (ap (λ (h : HoldMap). held_on h k c.args.target) (sym c.self.view_is)) c.requires in
    either_way c.put_target_in.result
    (λ is. subst (λ (h : HoldMap). FitsHoldLimits h × AreCached h counts codes) (sym is) (fits, AreCached-held_on holds k c.args.target counts codes c.self.invariant.1 none))
    (λ is. subst (λ (es : List (List ℕ × HoldState)). FitsHoldLimits (from_entries {R = code_cmp} es) × AreCached (from_entries {R = code_cmp} es) counts codes) (sym is) c.self.invariant)
    c.put_target_in.ensures.ok c.put_target_in.ensures.err
