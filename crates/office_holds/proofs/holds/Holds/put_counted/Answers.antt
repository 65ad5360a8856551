use Rattle.std.proofs.Common.{ap, sym, subst, ◌∙◌}
use Rattle.std.specs.FinSet.{from_list}
use Rattle.office_records.specs.Tree.{code_cmp}
use Rattle.office_rules.specs.HoldForms.{FitsHoldLimits}
use Rattle.office_holds.specs.HoldCounts.{AreCached}
use Rattle.office_rules.specs.Holds.{HoldMap}
use Rattle.office_holds.specs.contracts.holds.Holds.{the_view}
use Rattle.office_rules.specs.HoldEffects.{held_on}
use Rattle.office_holds.specs.HoldCounts.{may_gain}
use Rattle.office_holds.proofs.Cached.{AreCached-gained, AreCached-same, count_fits}
use Rattle.office_holds.proofs.holds.Holds.put_counted.Goals as goal

pub count_up-requires-clause-fits : goal.count_up-requires-clause-fits
count_up-requires-clause-fits c =
    let holds = the_view c.self.inside in
    let codes = from_list {R = code_cmp} c.self.inside.in_force.keys in
    count_fits holds c.make_room.new.self codes c.args.target c.self.invariant.0 (AreCached-same holds c.self.inside.counts c.make_room.new.self codes c.make_room.ensures.same c.self.invariant.1)

pub invariant_of-self-2 : goal.invariant_of-self-2
invariant_of-self-2 c =
    let holds = the_view c.self.inside in
    let k = c.args.code.now in
    let codes = from_list {R = code_cmp} c.self.inside.in_force.keys in
    let kept = AreCached-same holds c.self.inside.counts c.make_room.new.self codes c.make_room.ensures.same c.self.invariant.1 in
    let gains = ap (λ (h : HoldMap). may_gain h k c.args.target) c.self.view_is ∙ c.requires.gains in
    let fits = subst FitsHoldLimits (ap (λ (h : HoldMap). held_on h k c.args.target) (sym c.self.view_is)) c.requires.fits in
    subst (λ (h : HoldMap). FitsHoldLimits h × AreCached h c.count_up.new.self codes) (sym (c.in_ok-put_target_in.ensures.ok ∙ ap (held_on holds k) c.in_ok-copy.ensures))
    (fits, AreCached-gained holds k c.args.target c.make_room.new.self codes kept c.count_up.new.self gains c.count_up.ensures)
