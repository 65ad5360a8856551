use Rattle.std.proofs.Common.{ℕ, List, ap, sym, ◌∙◌}
use Rattle.std.specs.FinMap.{from_entries}
use Rattle.std.specs.BTreeMap.{BTreeMap}
use Rattle.std.specs.Option.{is_some}
use Rattle.office_records.specs.Tree.{code_cmp}
use Rattle.office_records.proofs.Inserting.{amended_written}
use Rattle.office_rules.specs.HoldEffects.{without_target}
use Rattle.office_rules.specs.Holds.{HoldState}
use Rattle.office_holds.proofs.Keys.{unchanged}
use Rattle.office_holds.proofs.change_steps.take_target_in.Goals as goal

pub returns-in-Some : goal.returns-in-Some
returns-in-Some c =
    let there = sym c.in-Some.ensures.value in
    let new = c.take.new.self in
    let finds = ((c.get_mut.follows.holds new).3 (ap is_some there)).0 in
    sym (amended_written c.args.holds.now.entries (c.get_mut.follows.lender new).entries c.args.code.now (without_target c.args.target.now) c.in-Some.hold.now new there c.take.ensures finds)

pub returns-in_default : goal.returns-in_default
returns-in_default c =
    ap (λ (m : BTreeMap (List ℕ) HoldState). from_entries {R = code_cmp} m.entries) c.get_mut.follows.holds-at-none
    ∙ sym (unchanged c.args.holds.now.entries c.args.code.now (without_target c.args.target.now) (sym c.in_default.ensures.value))
