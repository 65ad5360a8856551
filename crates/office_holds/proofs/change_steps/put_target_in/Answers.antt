use Rattle.std.proofs.Common.{ℕ, List, ap, sym, ◌∙◌}
use Rattle.std.specs.FinMap.{from_entries}
use Rattle.std.specs.BTreeMap.{BTreeMap, is_at}
use Rattle.std.specs.Map.{set_value}
use Rattle.std.proofs.lemmas.Map.Steps.{set_value_same}
use Rattle.std.specs.Option.{is_some}
use Rattle.office_records.specs.Tree.{code_cmp}
use Rattle.office_records.proofs.Inserting.{amended_written}
use Rattle.office_rules.specs.HoldEffects.{with_target}
use Rattle.office_rules.specs.Holds.{HoldState}
use Rattle.office_holds.proofs.Keys.{on_ok, on_err, unchanged}
use Rattle.office_holds.proofs.change_steps.put_target_in.Goals as goal

pub returns-in-Some-clause-ok : goal.returns-in-Some-clause-ok
returns-in-Some-clause-ok c =
    let there = sym c.in-Some.ensures.value in
    let new = c.put.new.self in
    let finds = ((c.get_mut.follows.holds new).3 (ap is_some there)).0 in
    on_ok c.put.result (λ is. sym (amended_written c.args.holds.now.entries (c.get_mut.follows.lender new).entries c.args.code.now (with_target c.args.target) c.in-Some.hold.now new there is finds)) c.put.ensures.ok

pub returns-in-Some-clause-err : goal.returns-in-Some-clause-err
returns-in-Some-clause-err c =
    let there = sym c.in-Some.ensures.value in
    let new = c.put.new.self in
    let es = c.args.holds.now.entries in
    let test = is_at (code_cmp c.args.code.now) in
    on_err c.put.result (λ is. (c.get_mut.follows.holds new).0 ∙ ap (set_value test es) is ∙ set_value_same test es c.in-Some.hold.now there) c.put.ensures.err

pub returns-in-None-clause-ok : goal.returns-in-None-clause-ok
returns-in-None-clause-ok c =
    ap (λ (m : BTreeMap (List ℕ) HoldState). from_entries {R = code_cmp} m.entries) c.get_mut.follows.holds-at-none
    ∙ sym (unchanged c.args.holds.now.entries c.args.code.now (with_target c.args.target) (sym c.in-None.ensures.value))
