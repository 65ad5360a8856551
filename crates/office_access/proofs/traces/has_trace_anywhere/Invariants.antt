use Rattle.std.proofs.Common.{◌≡◌, length}
use Rattle.office_access.specs.Eyes.{has_trace, has_trace_anywhere}
use Rattle.office_access.proofs.Numbers.{any_after}
use Rattle.office_access.proofs.traces.has_trace_anywhere.Given as goal

-- the records that are left answer for all
abbrev pub invariant-loop-before : goal.invariant-loop-before
invariant-loop-before l =
    has_trace_anywhere l.tree l.signs l.trace ≡ any_after (has_trace l.tree l.signs l.trace) (length l.tree.records) l.before
