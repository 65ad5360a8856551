use Rattle.std.proofs.Common.{arith, rules}
use Rattle.office_wire.proofs.Connected.{next_serving, none_serving, one_more}
use Rattle.office_wire.proofs.Exchanged.{some_more_served}
use Rattle.office_wire.proofs.connections.serve_session.Goals as goal

pub loop-before-init : goal.loop-before-init
loop-before-init g c = none_serving _ _ _ _

pub loop-before-preserved : goal.loop-before-preserved
loop-before-preserved g c =
    rw c.failed_by-has_failed.ensures (next_serving _ _ _ _ _ _ _ _ _ _ _ c.loop-before.invariant c.serve_next-served.ensures.turn c.serve_next-served.ensures.next (rw c.if-ends_after.false at c.ends_after.ensures))

pub returns-then-ends_after-clause-all : goal.returns-then-ends_after-clause-all
returns-then-ends_after-clause-all g c =
    record {
      turns = rw c.failed_by-has_failed.ensures (one_more _ _ _ _ _ _ _ _ _ c.loop-before.invariant.turns c.serve_next-served.ensures.turn (rw c.if-ends_after.true at c.ends_after.ensures));
      most = omega arith;
      all = search rules;
    }

pub returns-then-ends_after-clause-served : goal.returns-then-ends_after-clause-served
returns-then-ends_after-clause-served g c =
    rw c.failed_by-has_failed.ensures (some_more_served g.S.Store _ _ _ _ _ _ _ _ _ c.loop-before.invariant.served c.serve_next-served.ensures.next)
