use Rattle.std.proofs.Common.{◌≡◌, Some, filter, slice_get}
use Rattle.std.specs.FinMap.{from_entries, get}
use Rattle.office_records.specs.Lists.{is_some_and}
use Rattle.office_records.specs.Tree.{code_cmp}
use Rattle.office_rules.specs.Holds.{hold_covers}
use Rattle.office_holds.proofs.least_hold.first_covering.Given as goal

abbrev pub invariant-loop-code : goal.invariant-loop-code
invariant-loop-code l =
    slice_get (filter (λ code. is_some_and (get (from_entries {R = code_cmp} l.holds.entries) code) (λ hold. hold_covers hold l.record_no l.above (Some l.class))) l.code-iterator) 0
    ≡ slice_get (filter (λ code. is_some_and (get (from_entries {R = code_cmp} l.holds.entries) code) (λ hold. hold_covers hold l.record_no l.above (Some l.class))) l.codes.keys) 0
