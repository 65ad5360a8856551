use Rattle.std.proofs.Common.{List, ap, sym, subst, ◌∙◌}
use Rattle.std.specs.FinMap.{from_entries, get, insert}
use Rattle.std.specs.FinSet.{FinSet, contains, from_list}
use Rattle.office_records.specs.Tree.{code_cmp}
use Rattle.office_rules.specs.HoldForms.{FitsHoldLimits}
use Rattle.office_holds.specs.HoldCounts.{AreCached}
use Rattle.office_rules.specs.Holds.{HoldMap, HoldState}
use Rattle.office_holds.specs.contracts.holds.Holds.{the_view}
use Rattle.office_rules.specs.HoldRows.{hold_from, put_hold}
use Rattle.std.proofs.Common.{ℕ}
use Rattle.office_holds.proofs.Keys.{either_way}
use Rattle.office_holds.proofs.Cached.{AreCached-added, AreCached-more, just_in}
use Rattle.office_holds.proofs.holds.Holds.add.Goals as goal

pub invariant_of-self-2 : goal.invariant_of-self-2
invariant_of-self-2 c =
    let holds = the_view c.self.inside in
    let counts = c.self.inside.counts in
    let row = c.args.row in
    let codes = from_list {R = code_cmp} c.put_code.new.codes.keys in
    let more = c.in_ok-put_code.ensures.ok in
    let free = ap (λ (h : HoldMap). get h c.args.code) c.self.view_is ∙ c.requires.new in
    let fits = subst FitsHoldLimits (ap (λ (h : HoldMap). put_hold h c.args.code row) (sym c.self.view_is) ∙ ap (λ o. insert holds c.args.code (hold_from row o)) free) c.requires.fits in
    let kept = subst (λ (s : FinSet code_cmp). AreCached holds counts s) (sym more) (AreCached-more holds counts (from_list c.self.inside.in_force.keys) c.in_ok-copy.field-0 c.self.invariant.1) in
    let there = ap (λ (s : FinSet code_cmp). contains s c.args.code) more ∙ just_in (from_list c.self.inside.in_force.keys) c.in_ok-copy.field-0 c.args.code c.in_ok-copy.ensures in
    either_way c.add_in.result
    (λ is. subst (λ (h : HoldMap). FitsHoldLimits h × AreCached h counts codes) (sym is) (fits, AreCached-added holds c.args.code row counts codes free there kept))
    (λ is. subst (λ (es : List (List ℕ × HoldState)). FitsHoldLimits (from_entries {R = code_cmp} es) × AreCached (from_entries {R = code_cmp} es) counts codes) (sym is) (c.self.invariant.0, kept))
    c.add_in.ensures.ok c.add_in.ensures.err
