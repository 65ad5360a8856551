use Rattle.std.proofs.Common.{◌≡◌, ◌==◌, ◌||◌, ◌+◌, ◌<◌, ℕ, false, length, get_or, take}
use Rattle.std.specs.List.{list_any}
use Rattle.office_machine.proofs.marks.mark.Given as goal

-- marked are those that were, and those so far
abbrev pub invariant-loop-aggregation : goal.invariant-loop-aggregation
invariant-loop-aggregation l = record {
  count : length l.marks ≡ length l.fn.marks;
  each : (i : ℕ) → i < length l.fn.marks → get_or l.marks i false ≡ (get_or l.fn.marks i false || list_any (λ a. a == i + 1) (take l.aggregation-index l.aggregations));
}
