use Rattle.std.proofs.Common.{◌∙◌, subst}
use Rattle.std.proofs.lemmas.Map.Keys.{sorted_tail}
use Rattle.std.specs.List.Sorted.{IsStrictlySortedBy}
use Rattle.office_holds.specs.Numbers.{number_at}
use Rattle.office_holds.proofs.Keys.{counted_off}
use Rattle.office_holds.proofs.numbers.count_each_down.Goals as goal

pub loop-key-preserved : goal.loop-key-preserved
loop-key-preserved g c =
    let cmp = g.K.Ord.cmp in
    let first = c.in-Some.ensures.steps in
    let sorted = subst (IsStrictlySortedBy cmp) first c.loop-key.invariant.ordered in
    record {
      ordered = sorted_tail cmp c.in-Some.key.now c.next.new.self sorted;
      left = λ q.
          counted_off g.met.K.Ord.total c.in-Some.key.now q c.next.new.self c.loop-key.key-iterator (number_at cmp c.loop-key.numbers q) (number_at cmp c.count_down.new.numbers q) first sorted (c.count_down.ensures q)
          ∙ c.loop-key.invariant.left q;
    }
