use Rattle.office_wire.proofs.Connected.{IsServing}
use Rattle.office_wire.proofs.connections.serve_session.Given as goal

abbrev pub invariant-loop-before : goal.invariant-loop-before
invariant-loop-before g l = IsServing g.S.Store g.C.ConnectionSource.traffic l.before l.has_failed l.initial.source l.source l.initial.desk l.desk
