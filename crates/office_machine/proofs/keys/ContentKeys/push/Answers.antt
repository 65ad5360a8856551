use Rattle.std.proofs.Common.{◌≡◌, All, sym, subst}
use Rattle.std.specs.List.Sorted.{IsStrictlySortedBy}
use Rattle.std.specs.Ordering.{nat_cmp}
use Rattle.std.specs.Result.{is_ok}
use Rattle.std.specs.declared.cmp.Ordering.TheVariants.{Less}
use Rattle.office_machine.proofs.AscendingKeys.{ascend_pushed}
use Rattle.office_machine.proofs.keys.ContentKeys.push.Goals as goal

pub invariant_of-self : goal.invariant_of-self
invariant_of-self c =
    let below = subst (All (λ q. nat_cmp q c.args.number ≡ Less)) (sym c.self.view_is) (c.are_below.ensures.yes c.if-not-are_below.false) in
    subst (λ ks. IsStrictlySortedBy nat_cmp ks) (sym c.push.ensures.items) (ascend_pushed (is_ok c.push.result) c.self.inside.numbers.items c.args.number c.self.invariant below)
