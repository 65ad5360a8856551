use Rattle.std.proofs.Common.{◌≡◌, ◌∙◌, ◌-◌, All, Some, length, sym, ap, subst, arith}
use Rattle.std.specs.List.Sorted.{IsStrictlySortedBy}
use Rattle.std.specs.Option.{option_copied}
use Rattle.std.specs.Ordering.{nat_cmp}
use Rattle.std.specs.Prelude.{slice_get}
use Rattle.std.specs.declared.cmp.Ordering.TheVariants.{Less}
use Rattle.std.proofs.lemmas.Bool.{ltb-true, ltb-false}
use Rattle.std.proofs.lemmas.Option.{slice_get_within}
use Rattle.office_machine.proofs.AscendingKeys.{below_all, above_last}
use Rattle.office_machine.proofs.keys.ContentKeys.are_below.Goals as goal

pub returns-in-Some-clause-yes : goal.returns-in-Some-clause-yes
returns-in-Some-clause-yes c less =
    let keys = c.deref.result.now in
    let last : slice_get keys (length keys - 1) ≡ Some c.in-Some.last.now = sym c.last.ensures.value ∙ ap option_copied c.in-Some.is in
    let ascend = subst (λ ks. IsStrictlySortedBy nat_cmp ks) (sym c.deref.ensures.value) c.self.invariant in
    subst (All (λ q. nat_cmp q c.args.number ≡ Less)) (c.deref.ensures.value ∙ c.self.view_is) (below_all keys c.in-Some.last.now c.args.number ascend last (ltb-true c.in-Some.last.now c.args.number less))

pub returns-in-Some-clause-no : goal.returns-in-Some-clause-no
returns-in-Some-clause-no c above all =
    let keys = c.deref.result.now in
    let last : slice_get keys (length keys - 1) ≡ Some c.in-Some.last.now = sym c.last.ensures.value ∙ ap option_copied c.in-Some.is in
    let here = subst (All (λ q. nat_cmp q c.args.number ≡ Less)) (sym (c.deref.ensures.value ∙ c.self.view_is)) all in
    let some = slice_get_within keys (length keys - 1) c.in-Some.last.now last in
    let less = above_last keys c.in-Some.last.now c.args.number (omega (arith, some)) last here in
    let over = ltb-false c.in-Some.last.now c.args.number above in
    absurd (omega (arith, over, less))
