use Rattle.std.proofs.Common.{◌∙◌, length, arith}
use Rattle.office_access.specs.Eyes.{has_trace}
use Rattle.office_access.proofs.Numbers.{any_later}
use Rattle.office_access.proofs.traces.has_trace_anywhere.Goals as goal

pub loop-before-preserved : goal.loop-before-preserved
loop-before-preserved c =
    c.loop-before.invariant
    ∙ any_later (has_trace c.args.tree.now c.args.signs.now c.args.trace.now) (length c.args.tree.now.records) c.loop-before.before
    (omega arith) (cc)
