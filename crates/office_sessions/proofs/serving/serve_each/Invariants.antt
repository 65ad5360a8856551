use Rattle.std.specs.Prelude.{◌≡◌, ◌≤◌, length, map, vec_capacity}
use Rattle.sqlite.specs.Held.{state}
use Rattle.sqlite.specs.State.{HasCleanDisk}
use Rattle.office_rules.specs.State.{State}
use Rattle.office_desk.specs.Leaving.{IsAt}
use Rattle.office_sessions.specs.Requests.{sent_as}
use Rattle.office_sessions.proofs.Stopping.{HasAnswered}
use Rattle.office_sessions.proofs.serving.serve_each.Given as goal

abbrev pub invariant-loop-request : goal.invariant-loop-request
invariant-loop-request g l = record {
  clean : HasCleanDisk (state g.S.Store l.desk.connection) → HasCleanDisk (state g.S.Store l.initial.desk.connection);
  count : length l.answers.items ≡ l.request-index;
  room : length l.requests ≤ vec_capacity l.answers;
  has : HasCleanDisk (state g.S.Store l.desk.connection) → (s : State) → IsAt g.S.Store s l.initial.desk
      → HasAnswered g.S.Store s (map (λ bytes. bytes.now) l.requests) l.request-index (map sent_as l.answers.items) l.desk;
}
