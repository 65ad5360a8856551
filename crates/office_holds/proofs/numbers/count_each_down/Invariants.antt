use Rattle.std.proofs.Common.{◌≡◌, ◌-◌}
use Rattle.std.specs.BTreeSet as set
use Rattle.std.specs.List.{list_any}
use Rattle.std.specs.List.Sorted.{IsStrictlySortedBy}
use Rattle.std.specs.Ordering.{eq_by_cmp}
use Rattle.office_holds.specs.Numbers.{number_at, one_if}
use Rattle.office_holds.proofs.numbers.count_each_down.Given as goal

-- the keys that are left are still to be counted off
abbrev pub invariant-loop-key : goal.invariant-loop-key
invariant-loop-key g l = record {
  ordered : IsStrictlySortedBy g.K.Ord.cmp l.key-iterator;
  left : (q : g.row.K.Denot) → number_at g.K.Ord.cmp l.numbers q - one_if (list_any (eq_by_cmp g.K.Ord.cmp q) l.key-iterator) ≡ number_at g.K.Ord.cmp l.fn.numbers q - one_if (set.contains g.K.Ord.cmp l.fn.keys q);
}
