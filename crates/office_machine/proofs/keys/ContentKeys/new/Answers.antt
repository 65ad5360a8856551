use Rattle.std.proofs.Common.{sym, subst}
use Rattle.std.specs.List.Sorted.{IsStrictlySortedBy}
use Rattle.std.specs.Ordering.{nat_cmp}
use Rattle.office_machine.proofs.AscendingKeys.{none_ascend}
use Rattle.office_machine.proofs.keys.ContentKeys.new.Goals as goal

pub invariant_of-result : goal.invariant_of-result
invariant_of-result c = subst (λ ks. IsStrictlySortedBy nat_cmp ks) (sym c.new.ensures.items) none_ascend
