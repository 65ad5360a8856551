use Rattle.std.proofs.Common.{◌≡◌, ◌+◌, true, Some, arith, inl, inr, subst, sym, ◌∙◌}
use Rattle.std.proofs.lemmas.Bool.{cases_lt}
use Rattle.office_records.specs.Lists.{numbered}
use Rattle.office_records.proofs.Places.{numbered_within, numbered_at}
use Rattle.office_records.specs.Loading.{is_placed}
use Rattle.office_records.proofs.Placed.{numbered_there}
use Rattle.office_tree.proofs.tree_parts.are_placed.Goals as goal

pub loop-i-init : goal.loop-i-init
loop-i-init c = λ a it low at. let h = numbered_within c.args.aggregations.now a it at in absurd (omega (arith, h))

pub loop-i-preserved : goal.loop-i-preserved
loop-i-preserved c = λ a it low at. elim (cases_lt c.loop-i.i a) [
  | inl above ↦ let same : c.loop-i.i + 1 ≡ a = omega arith in
      subst (λ n. numbered c.args.aggregations.now n ≡ Some it → is_placed c.args.aggregations.now n it it.parent ≡ true) same
      (λ here. sym (c.is_placed.ensures it here) ∙ c.if-not-is_placed.false) at
  | inr below ↦ c.loop-i.invariant a it below at
]

pub returns-then-not-is_placed-clause-no : goal.returns-then-not-is_placed-clause-no
returns-then-not-is_placed-clause-no c _ all =
    let there = numbered_there c.args.aggregations.now c.loop-i.i c.loop-i-test.true in
    let at = numbered_at c.args.aggregations.now (c.loop-i.i + 1) c.loop-i.i (omega arith) ∙ there.1 in
    let good = c.is_placed.ensures there.0 at ∙ all (c.loop-i.i + 1) there.0 at in
    absurd (cc (good, c.if-not-is_placed.true))
