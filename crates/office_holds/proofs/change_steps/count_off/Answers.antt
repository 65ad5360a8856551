use Rattle.std.proofs.Common.{◌∙◌, ap, arith, sym}
use Rattle.std.specs.FinMap.{from_entries}
use Rattle.office_records.specs.Tree.{code_cmp}
use Rattle.office_records.proofs.Plan.{get_is}
use Rattle.office_holds.specs.Numbers.{one_if}
use Rattle.office_holds.proofs.Cached.{bound_there, lifted_there, none_there}
use Rattle.office_holds.proofs.change_steps.count_off.Goals as goal

pub returns-then-not-is_lifted : goal.returns-then-not-is_lifted
returns-then-not-is_lifted c = λ t.
    let there = get_is c.args.holds.now.entries c.args.code.now ∙ sym c.in-Some.ensures.value in
    let e = ap one_if (bound_there (from_entries {R = code_cmp} c.args.holds.now.entries) c.args.code.now c.in-Some.hold.now t there (sym c.is_lifted.ensures ∙ c.if-not-is_lifted.true)) in
    omega (arith, e, c.count_off.ensures t)

pub returns-else-not-is_lifted : goal.returns-else-not-is_lifted
returns-else-not-is_lifted c = λ t.
    let there = get_is c.args.holds.now.entries c.args.code.now ∙ sym c.in-Some.ensures.value in
    let e = ap one_if (lifted_there (from_entries {R = code_cmp} c.args.holds.now.entries) c.args.code.now c.in-Some.hold.now t there (sym c.is_lifted.ensures ∙ c.if-not-is_lifted.false)) in
    omega (arith, e)

pub returns-in_default : goal.returns-in_default
returns-in_default c = λ t.
    let e = ap one_if (none_there (from_entries {R = code_cmp} c.args.holds.now.entries) c.args.code.now t (get_is c.args.holds.now.entries c.args.code.now ∙ sym c.in_default.ensures.value)) in
    omega (arith, e)
