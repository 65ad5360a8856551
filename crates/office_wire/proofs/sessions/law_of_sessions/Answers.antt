use Rattle.office_wire.proofs.Attended.{attended, attended_alike}
use Rattle.office_wire.proofs.SessionSteps.{same_session}
use Rattle.office_wire.proofs.sessions.law_of_sessions.Goals as goal

pub returns : goal.returns
returns g c = record { answered = attended g.S.Store; determined = same_session; alike = attended_alike g.S.Store }
