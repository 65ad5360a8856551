use Rattle.office_gate.specs.Sessions.{GateTurns}
use Rattle.std.proofs.Common.{false}
use Rattle.office_gate.proofs.sessions.serve_visits.Given as goal

abbrev pub invariant-loop-before : goal.invariant-loop-before
invariant-loop-before g l =
    GateTurns g.S.Store g.T.SettingsText.readings l.before l.has_failed false l.initial.access l.access l.initial.desk l.desk
