use Rattle.std.proofs.Common.{arith, rules}
use Rattle.office_gate.proofs.Gated.{none_gated, one_more}
use Rattle.office_gate.proofs.sessions.serve_visits.Goals as goal

pub loop-before-init : goal.loop-before-init
loop-before-init g c = none_gated _ _ _ _

pub loop-before-preserved : goal.loop-before-preserved
loop-before-preserved g c =
    rw c.failed_by-has_failed.ensures (one_more _ _ _ _ _ _ _ _ _ _ _ _ c.loop-before.invariant c.serve_next_visit-served.ensures (rw c.if-ends_after.false at c.ends_after.ensures))

pub returns-then-ends_after : goal.returns-then-ends_after
returns-then-ends_after g c =
    record {
      turns = rw c.failed_by-has_failed.ensures (one_more _ _ _ _ _ _ _ _ _ _ _ _ c.loop-before.invariant c.serve_next_visit-served.ensures (rw c.if-ends_after.true at c.ends_after.ensures));
      most = omega arith;
      all = search rules;
    }
