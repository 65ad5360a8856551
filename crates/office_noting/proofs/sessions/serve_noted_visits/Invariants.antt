use Rattle.std.proofs.Common.{false}
use Rattle.office_gate.specs.Sessions.{GateTurns}
use Rattle.office_noting.specs.Gates.{HasItsDigest}
use Rattle.office_noting.specs.Ledgers.{ledger_of}
use Rattle.office_noting.specs.Sessions.{NotedTurns}
use Rattle.office_noting.proofs.sessions.serve_noted_visits.Given as goal

abbrev pub invariant-loop-before : goal.invariant-loop-before
invariant-loop-before g l = record {
  gates : GateTurns g.S.Store g.T.SettingsText.readings l.before l.has_failed false l.initial.gate.access l.gate.access l.initial.desk l.desk;
  digest : HasItsDigest l.initial.gate → HasItsDigest l.gate;
  noted : HasItsDigest l.initial.gate
      → NotedTurns g.W.Write.contents g.S.Store l.before (ledger_of l.initial.gate.book) (ledger_of l.gate.book) l.initial.desk l.desk;
}
