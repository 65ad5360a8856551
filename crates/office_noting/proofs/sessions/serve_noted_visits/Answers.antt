use Rattle.std.proofs.Common.{arith, rules}
use Rattle.office_gate.proofs.Gated.{none_gated, one_more}
use Rattle.office_noting.proofs.Turns.{no_turns, one_turn_more}
use Rattle.office_noting.proofs.sessions.serve_noted_visits.Goals as goal

pub loop-before-init : goal.loop-before-init
loop-before-init g c = record {
  gates = none_gated _ _ _ _;
  digest = λ is. is;
  noted = λ is. no_turns _ _ _ _;
}

pub loop-before-preserved : goal.loop-before-preserved
loop-before-preserved g c =
    let before = c.loop-before.invariant in
    let turn = c.serve_next_noted_visit-served.ensures in
    record {
      gates = rw c.failed_by-has_failed.ensures (one_more _ _ _ _ _ _ _ _ _ _ _ _ before.gates turn.turn (rw c.if-ends_after.false at c.ends_after.ensures));
      digest = λ is. turn.digest (before.digest is);
      noted = λ is. one_turn_more _ _ _ _ _ _ _ _ _ (before.noted is) (turn.noted (before.digest is));
    }

pub returns-then-ends_after : goal.returns-then-ends_after
returns-then-ends_after g c =
    let before = c.loop-before.invariant in
    let turn = c.serve_next_noted_visit-served.ensures in
    record {
      gates = record {
        turns = rw c.failed_by-has_failed.ensures (one_more _ _ _ _ _ _ _ _ _ _ _ _ before.gates turn.turn (rw c.if-ends_after.true at c.ends_after.ensures));
        most = omega arith;
        all = search rules;
      };
      digest = λ is. turn.digest (before.digest is);
      noted = λ is. one_turn_more _ _ _ _ _ _ _ _ _ (before.noted is) (turn.noted (before.digest is));
    }
